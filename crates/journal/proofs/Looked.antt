-- The header and the bodies are read into memory.
use Rattle.std.proofs.Common.{◌≡◌, ℕ, zero, suc, ◌+◌, ◌<◌, ◌≤◌, eqb, false, ◌≢◌, List, [], ◌∷◌, ◌++◌, length, get_or, take, Option, Ok, Err, Result, sym, refl, ap, ◌∙◌, subst, inl, inr, ⊎_elim, arith}
use Rattle.std.proofs.lemmas.List.{nil_from_length, get_or_push, get_or_append_left, length_push, length-take-le, take_more, take_all}
use Rattle.std.proofs.lemmas.Bool.{cases_eq, ne_eqb, and_left, and_right}
use Rattle.device.specs.declared.DeviceFault.{DeviceFault}
use Rattle.device.specs.Meaning.{State, bytes, spoiled, Meaning}
use Rattle.device.specs.Promises.{Same, Lost}
use Rattle.device.specs.Calls.{Answer}
use Rattle.device.proofs.Meanings.{same_self, same_trans}
use Rattle.device.proofs.Whens.{when_false}
use Rattle.journal.specs.Entries.{Entry}
use Rattle.journal.specs.Waiting.{pages, blank}
use Rattle.journal.specs.Standing.{is_bytes, whole}
use Rattle.journal.specs.Order.{NoGroup}
use Rattle.journal.specs.Recovery.{Awake, Looked, LoadedTo, Loaded, FoundGroup, Found}
use Rattle.journal.specs.Sound.{pages_length}
use Rattle.journal.proofs.Crash.{whole_same}
use Rattle.journal.proofs.Parsing.{pages_push}

same_lost : (m n o : Meaning) → Same m n → Lost n o → Lost m o
same_lost m n o a b = let c = a.count in record {
  left = record { count = b.left.count ∙ c; down = b.left.down };
  fates = λ i s h x. a.no_more i s h (b.fates i s (omega arith) x);
}

pub awake_same : (m n : Meaning) → Same m n → Awake m → Awake n
awake_same m n s a = record { running = s.runs ∙ a.running; room = let c = s.count in let r = a.room in omega arith }

-- a spoiled body is no group's
whole_broken : (ts : List ℕ) (k j : ℕ) (f : ℕ → State) → j < length ts → f (k + j) ≡ spoiled → whole ts k f ≡ false
whole_broken [] k j f h e = absurd (omega arith)
whole_broken (t ∷ ts) k zero f h e = and_left (is_bytes (f k)) (whole ts (suc k) f) (ap is_bytes (ap f (let z : k ≡ k + 0 = omega arith in z) ∙ e))
whole_broken (t ∷ ts) k (suc j) f h e = and_right (is_bytes (f k)) (whole ts (suc k) f) (whole_broken ts (suc k) j f (omega arith) (ap f (let z : suc k + j ≡ k + suc j = omega arith in z) ∙ e))

module _ (ts : List ℕ) (m : Meaning) (few : length ts ≤ 64) (a : Awake m) where
  pub loaded_none : LoadedTo ts 0 [] m m
  loaded_none = record { same = same_self m; named = refl; body = λ i h. absurd (omega arith); size = λ i h. absurd (omega arith) }

  module _ (n : Meaning) (j : ℕ) (es : List Entry) (l : LoadedTo ts j es m n) (lt : j < length ts) (o : Meaning) where
    body_within : 1 + j < n.count
    body_within = let c = l.same.count in let r = a.room in omega arith

    -- the look at body j, which stands on page p
    pub body_looked : (p : ℕ) (r : Result (Option (List ℕ)) DeviceFault) → p ≡ 1 + j → (p < n.count → Looked n p r o) → Looked n (1 + j) r o
    body_looked p r e f = subst (λ (q : ℕ). Looked n q r o) e (f (let b = body_within in omega arith))

    shown_at : n.shown (1 + j) ≡ m.shown (1 + j)
    shown_at = l.same.shown (1 + j) (let r = a.room in omega arith)

    abbrev entry : List ℕ → Entry
    entry bs = record { page = get_or ts j 0; bytes = bs }

    pub so_many : length es ≡ j
    so_many = let a = pages_length es in let b : length (pages es) ≡ length (take j ts) = ap length l.named in let c = length-take-le j ts (omega arith) in omega arith

    pub loaded_more : (bs : List ℕ) → length bs ≡ 252 → (n.shown (1 + j) ≡ bytes bs) × Same n o → LoadedTo ts (j + 1) (es ++ entry bs ∷ []) m o
    loaded_more bs size b = record {
      same = same_trans m n o l.same b.1;
      named = pages_push es (entry bs) ∙ ap (λ (xs : List ℕ). xs ++ get_or ts j 0 ∷ []) l.named ∙ sym (take_more ts j 0 lt);
      body = λ i h. ⊎_elim (λ q. ap (λ (x : ℕ). m.shown (1 + x)) q ∙ sym shown_at ∙ b.0 ∙ ap (λ (x : Entry). bytes x.bytes) (sym (at i q)))
          (λ ne. l.body i (within i h ne) ∙ ap (λ (x : Entry). bytes x.bytes) (sym (off i h ne))) (cases_eq i j);
      size = λ i h. ⊎_elim (λ q. ap (λ (x : Entry). length x.bytes) (at i q) ∙ size) (λ ne. ap (λ (x : Entry). length x.bytes) (off i h ne) ∙ l.size i (within i h ne)) (cases_eq i j);
    }
      where
        at : (i : ℕ) → i ≡ j → get_or (es ++ entry bs ∷ []) i blank ≡ entry bs
        at i q = get_or_push es (entry bs) blank i (let m = so_many in omega arith)

        within : (i : ℕ) → i < length (es ++ entry bs ∷ []) → i ≢ j → i < length es
        within i h ne = let m = so_many in let p = length_push es (entry bs) in omega arith

        off : (i : ℕ) → i < length (es ++ entry bs ∷ []) → i ≢ j → get_or (es ++ entry bs ∷ []) i blank ≡ get_or es i blank
        off i h ne = get_or_append_left es (entry bs ∷ []) blank i (within i h ne)

    pub load_broken : (n.shown (1 + j) ≡ spoiled) × Same n o → (whole ts 1 m.shown ≡ false) × Same m o
    load_broken b = (whole_broken ts 1 j m.shown lt (sym shown_at ∙ b.0), same_trans m n o l.same b.1)

-- whether what was loaded is a group that stood: n is what was read after the header, with its targets ts
module _ (T : State → List ℕ) (m n : Meaning) (ts : List ℕ) (few : length ts ≤ 64) (a : Awake m) (e : ts ≡ T (m.shown 0)) (s : Same m n) where
  whole_then : whole ts 1 m.shown ≡ whole ts 1 n.shown
  whole_then = whole_same ts 1 m.shown n.shown (λ k lo hi. sym (s.shown k (let r = a.room in omega arith)))

  -- as many entries as targets
  loaded_len : (es : List Entry) (o : Meaning) → LoadedTo ts (length ts) es n o → length es ≡ length ts
  loaded_len es o l = sym (pages_length es) ∙ ap length (l.named ∙ take_all (length ts) ts (omega arith))

  group_from : (es : List Entry) (o : Meaning) → 0 < length es → LoadedTo ts (length ts) es n o → FoundGroup T m es o
  group_from es o some l = record {
    some = some;
    group = subst (λ (x : List ℕ). LoadedTo x (length x) es m o) e (record {
      same = same_trans m n o s l.same;
      named = l.named;
      body = λ i h. sym (s.shown (1 + i) (let r = a.room in let k = loaded_len es o l in omega arith)) ∙ l.body i h;
      size = l.size;
    });
  }

  no_group : (o : Meaning) → whole ts 1 n.shown ≡ false → Same n o → NoGroup T m.shown × Same m o
  no_group o w l = (inr (subst (λ (x : List ℕ). whole x 1 m.shown ≡ false) e (whole_then ∙ w)), same_trans m n o s l)

  pub found_from : (o : Meaning) (r : Answer) (es : List Entry) → Loaded ts n r es o → Found T m r es o
  found_from o (Ok _) [] (inl x) = no_group o x.1 x.2
  found_from o (Ok _) [] (inr l) = (inl (sym e ∙ nil_from_length ts (sym (loaded_len [] o l))), same_trans m n o s l.same)
  found_from o (Ok _) (x ∷ es) (inl y) = absurd (let z = ap length y.0 in omega arith)
  found_from o (Ok _) (x ∷ es) (inr l) = when_false (eqb (suc (length es)) 0) _ _ (ne_eqb _ _ (λ z. omega arith)) (group_from (x ∷ es) o (omega arith) l)
  found_from o (Err f) es l = (l.0, same_lost m n o s l.1)
