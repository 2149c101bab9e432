-- A walk over the records of a bucket.
use Rattle.std.proofs.Common.{◌≡◌, ℕ, ◌+◌, ◌-◌, Bool, true, false, List, [], ◌∷◌, ◌++◌, length, Some, None, Option, Bor, MatchBool, MatchOption, eqb, sym, refl, ap, ◌∙◌, subst, arith, length-append}
use Rattle.std.specs.List.{AllByRecursion, FoldsTo}
use Rattle.std.specs.Iterator.{AlwaysYields, Yields, YieldsThen}
use Rattle.std.specs.Fn.{Called, CalledAt, Mut}
use Rattle.std.proofs.lemmas.Bool.{both_ways, eqb-true, eqb-false}
use Rattle.std.proofs.lemmas.List.{append_assoc, nil_from_length}
use Rattle.tree.specs.Maps.{Rec, size}
use Rattle.pages.specs.Records.{Fine, viewed, record_bytes, records, Walked, FoundAt}
use Rattle.pages.specs.declared.records.Record.{Record}
use Rattle.pages.specs.declared.records.Records.{Records}
use Rattle.pages.proofs.Codec.{record_inj, record_length, records_append}

-- bytes that begin with a record, and are records, are that record and others
pub one_more : (left after : List ℕ) (x : Rec) (more : List Rec) → left ≡ record_bytes x ++ after → left ≡ records more → (rest : List Rec) × (more ≡ x ∷ rest) × (after ≡ records rest)
one_more left after x [] e r =
    let l : length (record_bytes x ++ after) ≡ 0 = ap length (sym e ∙ r) in
    absurd (omega (arith, l, length-append (record_bytes x) after, record_length x))
one_more left after x (y ∷ rest) e r =
    let p = record_inj x y after (records rest) (sym e ∙ r) in
    (rest, ap (λ (z : Rec). z ∷ rest) (sym p.0), p.1)

-- bytes that begin with none, and are records, are none
pub no_more : (left : List ℕ) (more : List Rec) → ((x : Rec) (rest : List ℕ) → left ≡ record_bytes x ++ rest → ⊥) → left ≡ records more → more ≡ []
no_more left [] un r = refl
no_more left (x ∷ rest) un r = absurd (un x (records rest) r)

-- each record takes some of the bytes
pub shorter : (left after : List ℕ) (x : Rec) → left ≡ record_bytes x ++ after → size x + length after ≡ length left
shorter left after x e = omega (arith, ap length e, length-append (record_bytes x) after, record_length x)

module _ (valid : List ℕ → Bool) where
  -- bytes that are records that may stand in a page
  abbrev pub Good : List ℕ → Type 0
  Good bs = (rs : List Rec) × (bs ≡ records rs) × AllByRecursion (Fine valid) rs

  pub good_nil : (left : List ℕ) → length left ≡ 0 → Good left
  good_nil left e = ([], nil_from_length left e, tt)

  pub good_more : (left after : List ℕ) (x : Rec) → left ≡ record_bytes x ++ after → Fine valid x → Good after → Good left
  good_more left after x e f g = (x ∷ g.0, e ∙ ap (λ (l : List ℕ). record_bytes x ++ l) g.1, (f, g.2))

  pub good_less : (left after : List ℕ) (x : Rec) → left ≡ record_bytes x ++ after → Good left → Fine valid x × Good after
  good_less left after x e g =
      let o = one_more left after x g.0 e g.1 in
      let a : AllByRecursion (Fine valid) (x ∷ o.0) = subst (AllByRecursion (Fine valid)) o.1 g.2 in
      (a.0, (o.0, o.2, a.1))

  pub good_none : (left : List ℕ) → (length left ≡ 0 → ⊥) → ((x : Rec) (rest : List ℕ) → left ≡ record_bytes x ++ rest → ⊥) → Good left → ⊥
  good_none left long un g =
      let z : records g.0 ≡ [] = ap records (no_more left g.0 un g.1) in
      long (ap length (g.1 ∙ z))

-- ---- searched

module _ (same : List ℕ → List ℕ → Bool) (key : List ℕ) where
  abbrev pub Passed : List ℕ → List ℕ → Type 0
  Passed bs left = (rs : List Rec) → bs ≡ records rs
      → (before more : List Rec) × (rs ≡ before ++ more) × (left ≡ records more) × AllByRecursion (λ (x : Rec). same key x.key ≡ false) before

  all_push : (xs : List Rec) (x : Rec) → AllByRecursion (λ (y : Rec). same key y.key ≡ false) xs → same key x.key ≡ false → AllByRecursion (λ (y : Rec). same key y.key ≡ false) (xs ++ x ∷ [])
  all_push [] x a f = (f, tt)
  all_push (y ∷ ys) x a f = (a.0, all_push ys x a.1 f)

  pub passed_more : (bs left after : List ℕ) (x : Rec) → left ≡ record_bytes x ++ after → same key x.key ≡ false → Passed bs left → Passed bs after
  passed_more bs left after x e f c = λ rs r.
      let k = c rs r in
      let o = one_more left after x k.1 e k.3 in
      (k.0 ++ x ∷ [], o.0, k.2 ∙ ap (λ (l : List Rec). k.0 ++ l) o.1 ∙ sym (append_assoc k.0 (x ∷ []) o.0), o.2, all_push k.0 x k.4 f)

  append-nil : (xs : List Rec) → xs ++ [] ≡ xs
  append-nil [] = refl
  append-nil (x ∷ xs) = ap (λ (l : List Rec). x ∷ l) (append-nil xs)

  pub passed_all : (bs left : List ℕ) → ((x : Rec) (rest : List ℕ) → left ≡ record_bytes x ++ rest → ⊥) → Passed bs left → (rs : List Rec) → bs ≡ records rs → AllByRecursion (λ (x : Rec). same key x.key ≡ false) rs
  passed_all bs left un c rs r =
      let k = c rs r in
      let z : rs ≡ k.0 = k.2 ∙ ap (λ (l : List Rec). k.0 ++ l) (no_more left k.1 un k.3) ∙ append-nil k.0 in
      subst (AllByRecursion (λ (x : Rec). same key x.key ≡ false)) (sym z) k.4

  pub passed_hit : (bs left after : List ℕ) (x : Rec) (at : ℕ) → at ≡ length bs - length left → left ≡ record_bytes x ++ after → same key x.key ≡ true → Passed bs left → (rs : List Rec) → bs ≡ records rs → FoundAt same key rs at x
  passed_hit bs left after x at place e t c rs r =
      let k = c rs r in
      let o = one_more left after x k.1 e k.3 in
      let l : length bs ≡ length (records k.0) + length left =
      ap length (r ∙ ap records k.2 ∙ records_append k.0 k.1) ∙ length-append (records k.0) (records k.1) ∙ ap (λ (q : List ℕ). length (records k.0) + length q) (sym k.3) in
      record {
        before = k.0;
        after = o.0;
        split = k.2 ∙ ap (λ (q : List Rec). k.0 ++ q) o.1;
        place = omega arith;
        hit = t;
        first = k.4;
      }

-- ---- an iterator over records

abbrev pub Item : Type 0
Item = ℕ × Record

abbrev pub took : Records → Option Item → Records → Type 0
took s r t = Walked s.bytes.now s.left.now r t.bytes.now t.left.now

-- it yields the records that the bytes are
pub walks : (rs : List Rec) (s : Records) → s.left.now ≡ records rs → AlwaysYields took (λ p. viewed p.1) s rs
walks [] s e = λ x j k. absurd (omega (arith, ap length (sym k.1.1 ∙ e), length-append (record_bytes (viewed x.1)) j.left.now, record_length (viewed x.1)))
walks (r ∷ rs) s e = (
  (λ j k. k.1.0 r (records rs) e),
  λ x j k. let p = record_inj (viewed x.1) r j.left.now (records rs) (sym k.1.1 ∙ e) in (p.0, walks rs j p.1),
)

-- what is left is good if and only if all is, and begins with no record
abbrev pub Left : (List ℕ → Bool) → Records → Records → Type 0
Left valid s u = (Good valid u.left.now → Good valid s.left.now) × (Good valid s.left.now → Good valid u.left.now) × ((x : Rec) (rest : List ℕ) → u.left.now ≡ record_bytes x ++ rest → ⊥)

-- and nothing is left
pub tested_whole : (valid : List ℕ → Bool) (s u : Records) (b : Bool) → Left valid s u → b ≡ eqb (length u.left.now) 0 → MatchBool b (Good valid s.left.now) ((rs : List Rec) → s.left.now ≡ records rs → AllByRecursion (Fine valid) rs → ⊥)
tested_whole valid s u true l e = l.0 (good_nil valid u.left.now (eqb-true (length u.left.now) 0 (sym e)))
tested_whole valid s u false l e = λ rs q a. good_none valid u.left.now (eqb-false (length u.left.now) 0 (sym e)) l.2 (l.1 (rs, q, a))

-- all of them tested
module _ (valid : List ℕ → Bool) {F : Type 0} (g : Mut F (Item × Unit {0}) Bool) (f : F) (yes : (x : Item) (q : F) → Called g f (x, tt) true q → (q ≡ f) × Fine valid (viewed x.1))
    (no : (x : Item) (q : F) → Called g f (x, tt) false q → Fine valid (viewed x.1) → ⊥) where
  abbrev Fold : F → List Item → F → Type 0
  Fold = FoldsTo (λ p x q. Called g p (x, tt) true q)

  abbrev Told : Option Item → Bool → F → Type 0
  Told o r j = MatchOption o (r ≡ true) (λ x. (r ≡ false) × ((h : F) × Called g j (x, tt) false h))

  passed : (xs : List Item) (s t : Records) (j : F) → Yields took s xs t → Fold f xs j → (j ≡ f) × (Good valid t.left.now → Good valid s.left.now) × (Good valid s.left.now → Good valid t.left.now)
  passed [] s t j y c = (sym c, (λ a. subst (λ (v : Records). Good valid v.left.now) (sym y) a), λ a. subst (λ (v : Records). Good valid v.left.now) y a)
  passed (x ∷ xs) s t j y c =
      let q = yes x c.0 c.1 in
      let r = passed xs y.0 t j y.2 (subst (λ p. Fold p xs j) q.0 c.2) in
      (r.0, (λ a. good_more valid s.left.now y.0.left.now (viewed x.1) y.1.1.1 q.1 (r.1 a)), λ a. r.2 (good_less valid s.left.now y.0.left.now (viewed x.1) y.1.1.1 a).1)

  pub tested_all : (s u : Records) (r : Bool) → (xs : List Item) × (o : Option Item) × (j : F) × YieldsThen took s xs o u × Fold f xs j × Told o r j → r ≡ true → Left valid s u
  tested_all s u r t e = go t.1 t.3 t.5
    where
      go : (o : Option Item) → YieldsThen took s t.0 o u → Told o r t.2 → Left valid s u
      go None y m =
          let p = passed t.0 s y.0 t.2 y.1 t.4 in
          let k = y.2.1 in
          ((λ a. p.1 (subst (Good valid) k.1 a)), (λ a. subst (Good valid) (sym k.1) (p.2 a)), λ x rest q. k.0 x rest (sym k.1 ∙ q))
      go (Some x) y m = absurd (both_ways r m.0 e)

  pub tested_not : (s u : Records) (r : Bool) → (xs : List Item) × (o : Option Item) × (j : F) × YieldsThen took s xs o u × Fold f xs j × Told o r j → r ≡ false → Good valid s.left.now → ⊥
  tested_not s u r t e a = go t.1 t.3 t.5
    where
      go : (o : Option Item) → YieldsThen took s t.0 o u → Told o r t.2 → ⊥
      go None y m = both_ways r e m
      go (Some x) y m =
          let p = passed t.0 s y.0 t.2 y.1 t.4 in
          no x m.1.0 (subst (λ j. Called g j (x, tt) false m.1.0) p.0 m.1.1) (good_less valid y.0.left.now u.left.now (viewed x.1) y.2.1.1 (p.2 a)).0

-- the first with a key
module _ (same : List ℕ → List ℕ → Bool) (key : List ℕ) {F : Type 0} (g : Mut F (Bor Item × Unit {0}) Bool) (f : F) (yes : (x : Item) (q : F) → CalledAt g f x true q → same key (viewed x.1).key ≡ true)
    (no : (x : Item) (q : F) → CalledAt g f x false q → (q ≡ f) × (same key (viewed x.1).key ≡ false)) where
  abbrev Skips : F → List Item → F → Type 0
  Skips = FoldsTo (λ p x q. CalledAt g p x false q)

  skipped : (xs : List Item) (s t : Records) (j : F) → Yields took s xs t → Skips f xs j → Passed same key s.bytes.now s.left.now → (j ≡ f) × (t.bytes.now ≡ s.bytes.now) × Passed same key s.bytes.now t.left.now
  skipped [] s t j y c p = (sym c, ap (λ (v : Records). v.bytes.now) (sym y), subst (λ (v : Records). Passed same key s.bytes.now v.left.now) y p)
  skipped (x ∷ xs) s t j y c p =
      let q = no x c.0 c.1 in
      let m : Passed same key y.0.bytes.now y.0.left.now =
      subst (λ b. Passed same key b y.0.left.now) (sym y.1.0) (passed_more same key s.bytes.now s.left.now y.0.left.now (viewed x.1) y.1.1.1 q.1 p) in
      let r = skipped xs y.0 t j y.2 (subst (λ p. Skips p xs j) q.0 c.2) m in
      (r.0, r.1 ∙ y.1.0, subst (λ b. Passed same key b t.left.now) y.1.0 r.2)

  pub found_first : (s u : Records) (r : Option Item) → (xs : List Item) × (j : F) × YieldsThen took s xs r u × Skips f xs j × MatchOption r (Unit {0}) (λ x. (h : F) × CalledAt g j x true h) → s.left.now ≡ s.bytes.now
      → (rs : List Rec) → s.bytes.now ≡ records rs → MatchOption r (AllByRecursion (λ (x : Rec). same key x.key ≡ false) rs) (λ p. FoundAt same key rs p.0 (viewed p.1))
  found_first s u r t l rs e = go r t.2 t.4
    where
      start : Passed same key s.bytes.now s.left.now
      start = subst (Passed same key s.bytes.now) (sym l) (λ ss w. ([], ss, refl, w, tt))

      go : (r : Option Item) → YieldsThen took s t.0 r u → MatchOption r (Unit {0}) (λ x. (h : F) × CalledAt g t.1 x true h)
          → MatchOption r (AllByRecursion (λ (x : Rec). same key x.key ≡ false) rs) (λ p. FoundAt same key rs p.0 (viewed p.1))
      go None y m = passed_all same key s.bytes.now y.0.left.now y.2.1.0 (skipped t.0 s y.0 t.1 y.1 t.3 start).2 rs e
      go (Some p) y m =
          let k = skipped t.0 s y.0 t.1 y.1 t.3 start in
          passed_hit same key s.bytes.now y.0.left.now u.left.now (viewed p.1) p.0 (omega (arith, y.2.1.0, ap length k.1)) y.2.1.1 (yes p m.0 (subst (λ j. CalledAt g j p true m.0) k.0 m.1)) k.2 rs e
