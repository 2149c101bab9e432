-- What waits for a page.
use Rattle.std.proofs.Common.{◌≡◌, ℕ, zero, suc, ◌<◌, true, false, eqb, List, [], ◌∷◌, length, get_or, Some, None, sym, refl, ap, ◌∙◌, ⊎_elim, arith}
use Rattle.std.specs.List.{position_or_len}
use Rattle.std.specs.Option.{option_map, unwrap_or, is_some}
use Rattle.std.proofs.lemmas.Bool.{eqb-true, eqb-false, cases_lt, cond-true, lt-ltb}
use Rattle.std.proofs.lemmas.Bool.Decides.{nat_tests}
use Rattle.std.proofs.lemmas.List.Sums.{fails_before_first}
use Rattle.std.proofs.lemmas.List.Quantifiers.{position-Some}
use Rattle.device.specs.Meaning.{State, bytes, has}
use Rattle.journal.specs.Entries.{Entry}
use Rattle.journal.specs.Waiting.{blank, pages, held, place, look_up}

pub has_later : (es : List Entry) (p j : ℕ) → j < length es → (get_or es j blank).page ≡ p → has p (pages es) ≡ true
has_later [] p j h e = absurd (omega arith)
has_later (d ∷ es) p zero h e = grind (arith, nat_tests)
has_later (d ∷ es) p (suc j) h e = let r = has_later es p j (omega arith) e in grind (arith, nat_tests)

pub absent : (es : List Entry) (p : ℕ) → ((j : ℕ) → j < length es → (get_or es j blank).page ≡ p → ⊥) → has p (pages es) ≡ false
absent [] p n = refl
absent (x ∷ es) p n = let r = absent es p (λ j l. n (suc j) (omega arith)) in let z = n 0 (omega arith) in grind (arith, nat_tests)

-- page p waits, with these bytes
pub record Held (es : List Entry) (p : ℕ) (buf : List ℕ) : Type 0 where
  pub waits : has p (pages es) ≡ true
  pub shows : (d : State) → held es p d ≡ bytes buf

-- page p does not wait
pub record NotHeld (es : List Entry) (p : ℕ) : Type 0 where
  pub absent : has p (pages es) ≡ false
  pub home : (d : State) → held es p d ≡ d

-- k is the place of page p
pub record At (es : List Entry) (p k : ℕ) : Type 0 where
  pub within : k < length es
  pub before : (j : ℕ) → j < k → (get_or es j blank).page ≡ p → ⊥
  pub here : (get_or es k blank).page ≡ p

held_first : (es : List Entry) (p : ℕ) (d : State) → held es p d ≡ unwrap_or (option_map bytes (look_up es p)) d
held_first [] p d = refl
held_first (x ∷ es) p d = grind (arith, nat_tests, held_first es p d)

has_first : (es : List Entry) (p : ℕ) → has p (pages es) ≡ is_some (look_up es p)
has_first [] p = refl
has_first (x ∷ es) p = grind (arith, nat_tests, has_first es p)

-- a page that is found waits with those bytes, and one that is not does not wait
pub found : (es : List Entry) (p : ℕ) (b : List ℕ) → Some b ≡ look_up es p → Held es p b
found es p b e = record { waits = has_first es p ∙ ap is_some (sym e); shows = λ d. held_first es p d ∙ ap (λ o. unwrap_or (option_map bytes o) d) (sym e) }

pub not_found : (es : List Entry) (p : ℕ) → None ≡ look_up es p → NotHeld es p
not_found es p e = record { absent = has_first es p ∙ ap is_some (sym e); home = λ d. held_first es p d ∙ ap (λ o. unwrap_or (option_map bytes o) d) (sym e) }

pub placed : (es : List Entry) (p k : ℕ) → Some k ≡ place es p → At es p k
placed es p k e = let q = position-Some (λ e. eqb e.page p) es k blank (sym e) in record { within = q.0; before = λ j h. eqb-false _ _ (q.2 j h); here = eqb-true _ _ q.1 }

pub not_placed : (es : List Entry) (p : ℕ) → None ≡ place es p → (j : ℕ) → j < length es → (get_or es j blank).page ≡ p → ⊥
not_placed es p e j h = ⊎_elim
    (λ l. let z : place es p ≡ Some (position_or_len (λ (e : Entry). eqb e.page p) es) = cond-true _ _ _ (lt-ltb _ _ l) in absurd (cc))
    (λ l. eqb-false _ _ (fails_before_first (λ (e : Entry). eqb e.page p) es j blank (omega arith)))
    (cases_lt (position_or_len (λ (e : Entry). eqb e.page p) es) (length es))
