-- A journal that agrees with what stands below is sound.
use Rattle.std.specs.Prelude.{◌≡◌, ℕ, suc, ◌+◌, ◌<◌, ◌≤◌, Bool, true, ◌&&◌, leb, ◌⊎◌, List, [], ◌∷◌, length, ◌==◌, nat_le, refl}
use Rattle.std.proofs.Common.{sym, ap, subst, ◌∙◌, inl, inr, ⊎_elim, arith}
use Rattle.std.proofs.lemmas.Bool.{eqb-true, cases_Bool, cases_lt, cond-true, cond-false, and_parts, leb-true, false≢true}
use Rattle.device.specs.Meaning.{State, bytes, spoiled, has, Meaning, Sound}
use Rattle.journal.specs.declared.journal.Journal.{Journal}
use Rattle.journal.specs.Entries.{Entry}
use Rattle.journal.specs.Waiting.{waiting, pages, held, AllFit}
use Rattle.layout.specs.Envelope.{body_part, same}
use Rattle.journal.specs.Header.{pairs, header, once, names, named, targets}
use Rattle.journal.specs.Standing.{above, whole, over, laid, Choice, Ends, home, journal}
use Rattle.journal.specs.Over.{reader, journaled, Agrees, Agreeing}

-- a choice of fates
pick : (m : Meaning) (s : Sound m) (i : ℕ) → (i < m.count) ⊎ (m.count ≤ i) → State
pick m s i (inl h) = (s.some_fate i h).0
pick m s i (inr h) = spoiled

picked : (m : Meaning) (s : Sound m) (i : ℕ) (d : (i < m.count) ⊎ (m.count ≤ i)) → i < m.count → m.fates i (pick m s i d)
unfolding pick
picked m s i (inl h) k = (s.some_fate i h).1
picked m s i (inr h) k = absurd (omega arith)

pub choose : (m : Meaning) → Sound m → (f : ℕ → State) × Choice m f
choose m s = (λ i. pick m s i (cases_lt i m.count), λ i h. picked m s i (cases_lt i m.count) h)

-- what is laid over a page is the page itself, or a body
over_from : (ts : List ℕ) (j : ℕ) (f : ℕ → State) (i : ℕ) (d : State) → (over ts j f i d ≡ d) ⊎ ((k : ℕ) × (j ≤ k) × (k < j + length ts) × (over ts j f i d ≡ f k))
over_from [] j f i d = inl refl
over_from (t ∷ ts) j f i d = ⊎_elim
    (λ y. inr (j, omega arith, omega arith, cond-true (t == i) (f j) _ y))
    (λ n. ⊎_elim (λ e. inl (cond-false (t == i) (f j) _ n ∙ e))
    (λ q. let a = q.1 in let b = q.2 in inr (q.0, omega arith, omega arith, cond-false (t == i) (f j) _ n ∙ q.3)) (over_from ts (suc j) f i d))
    (cases_Bool (t == i))

laid_from : (T : State → List ℕ) (f : ℕ → State) (i : ℕ) → (laid T f i ≡ f (65 + i)) ⊎ ((k : ℕ) × (k < 1 + length (T (f 0))) × (laid T f i ≡ f k))
laid_from T f i = ⊎_elim
    (λ y. ⊎_elim (λ e. inl (cond-true _ _ _ y ∙ e)) (λ q. inr (q.0, q.2, cond-true _ _ _ y ∙ q.3)) (over_from (T (f 0)) 1 f i (f (65 + i))))
    (λ n. inl (cond-false _ _ _ n))
    (cases_Bool (whole (T (f 0)) 1 f))

held_from : (n : ℕ) (es : List Entry) (i : ℕ) (d : State) → AllFit n es → (held es i d ≡ d) ⊎ ((bs : List ℕ) × (length bs ≡ 252) × (held es i d ≡ bytes bs))
held_from n [] i d h = inl refl
held_from n (e ∷ es) i d h = ⊎_elim
    (λ y. inr (e.bytes, h.1, cond-true _ _ _ y))
    (λ q. ⊎_elim (λ x. inl (cond-false _ _ _ q ∙ x)) (λ x. inr (x.0, x.1, cond-false _ _ _ q ∙ x.2)) (held_from n es i d h.2))
    (cases_Bool (e.page == i))

pub pages_length : (es : List Entry) → length (pages es) ≡ length es
pages_length [] = refl
pages_length (e ∷ es) = ap suc (pages_length es)

-- what waits is below the count
pages_below : (n : ℕ) (es : List Entry) (i : ℕ) → AllFit n es → has i (pages es) ≡ true → i < n
pages_below n [] i f h = absurd (false≢true h)
pages_below n (e ∷ es) i f h = ⊎_elim
    (λ y. let q = eqb-true i e.page y in let w = f.0 in omega arith)
    (λ y. pages_below n es i f.2 (sym (cond-false (i == e.page) true (has i (pages es)) y) ∙ h))
    (cases_Bool (i == e.page))

bytes_same : (bs cs : List ℕ) → bytes bs ≡ bytes cs → bs ≡ cs
bytes_same bs cs e = cc

-- a header names at most 64 targets
named_short : (n : ℕ) (page ts : List ℕ) → length (named n page ts) ≤ 64
named_short n page ts = ⊎_elim
    (λ y. let a : leb (length ts) 64 ≡ true = (and_parts (nat_le (length ts) 64) (once n ts) (and_parts (same page (header ts)) (nat_le (length ts) 64 && once n ts) y).1).0 in
    subst (λ (l : List ℕ). length l ≤ 64) (sym (cond-true (names n page ts) ts [] y)) (leb-true (length ts) 64 a))
    (λ z. subst (λ (l : List ℕ). length l ≤ 64) (sym (cond-false (names n page ts) ts [] z)) (omega arith))
    (cases_Bool (names n page ts))

pub short : (n : ℕ) (s : State) → length (targets n s) ≤ 64
short n spoiled = omega arith
short n (bytes page) = named_short n page (pairs (body_part page))

module _ (T : State → List ℕ) (few_named : (s : State) → length (T s) ≤ 64) (up : Bool) (es : List Entry) (m : Meaning) (s : Sound m) (g : Agrees T up es m) where
  -- what an end shows at a page is a fate of some page below
  end_sized : (e : ℕ → State) → Ends T m e → (i : ℕ) → i < above m.count → (bs : List ℕ) → e i ≡ bytes bs → length bs ≡ 252
  end_sized e (f, c, a) i h bs q = ⊎_elim
      (λ x. let l : 65 + i < m.count = omega arith in s.sized (65 + i) bs l (subst (m.fates (65 + i)) (sym x ∙ sym (a i h) ∙ q) (c (65 + i) l)))
      (λ x. let b = x.1 in let z = few_named (f 0) in let l : x.0 < m.count = omega arith in s.sized x.0 bs l (subst (m.fates x.0) (sym x.2 ∙ sym (a i h) ∙ q) (c x.0 l)))
      (laid_from T f i)

  shown_sized : up ≡ true → (i : ℕ) → i < above m.count → (bs : List ℕ) → held es i (home m i) ≡ bytes bs → length bs ≡ 252
  shown_sized t i h bs q = ⊎_elim
      (λ x. let l : 65 + i < m.count = omega arith in s.sized (65 + i) bs l (subst (m.fates (65 + i)) (sym x ∙ q) (s.shown_fate (g.below t) (65 + i) l)))
      (λ x. subst (λ (y : List ℕ). length y ≡ 252) (bytes_same x.0 bs (sym x.2 ∙ q)) x.1)
      (held_from (above m.count) es i (home m i) g.fit)

  sound_over : Sound (journal T up es m)
  sound_over = record {
    some_fate = λ i h. let c = choose m s in (laid T c.0 i, inl (laid T c.0, (c.0, c.1, λ j l. refl), refl));
    shown_fate = λ t i h. inr (t, refl);
    sized = λ i bs h x. ⊎_elim (λ y. end_sized y.0 y.1 i h bs y.2) (λ y. shown_sized y.0 i h bs (sym y.1)) x;
    few = λ t. let e = pages_length es in let k = g.few in omega arith;
    apart = g.apart;
    pages = λ i h. pages_below (above m.count) es i g.fit h;
  }

pub journal_sound : {X : Type 0} (agrees : X → Type 0) (meaning : X → Meaning) → ((d : X) → agrees d → Sound (meaning d)) → (j : Journal X) → Agreeing agrees meaning j → Sound (journaled meaning j)
journal_sound agrees meaning sound j h =
    sound_over (reader (meaning j.below)) (short (above (meaning j.below).count)) j.up (waiting j.pending) (meaning j.below) (sound j.below h.0) h.1
