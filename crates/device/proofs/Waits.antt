-- How many pages wait after a write: at most one more than before, since each waits once.
use Rattle.std.proofs.Common.{◌≡◌, ℕ, suc, ◌+◌, ◌≤◌, true, cond, eqb, ◌≢◌, ◌⊎◌, List, [], ◌∷◌, length, sym, refl, ap, ◌∙◌, ⊎_elim, arith}
use Rattle.std.proofs.lemmas.Bool.{eqb-true, eq-eqb, ne_eqb, cases_Bool, cond-true, cond-false, false≢true, both_ways}
use Rattle.device.specs.Meaning.{has, Distinct}

-- the list with the first p taken out
abbrev without : ℕ → List ℕ → List ℕ
without p [] = []
without p (q ∷ qs) = cond (eqb p q) qs (q ∷ without p qs)

without_length : (p : ℕ) (xs : List ℕ) → has p xs ≡ true → suc (length (without p xs)) ≡ length xs
without_length p [] h = absurd (false≢true h)
without_length p (q ∷ qs) h = ⊎_elim
    (λ y. ap (λ (l : List ℕ). suc (length l)) (cond-true (eqb p q) qs (q ∷ without p qs) y))
    (λ n. ap (λ (l : List ℕ). suc (length l)) (cond-false (eqb p q) qs (q ∷ without p qs) n) ∙ ap suc (without_length p qs (sym (cond-false (eqb p q) true (has p qs) n) ∙ h)))
    (cases_Bool (eqb p q))

without_has : (p i : ℕ) (xs : List ℕ) → i ≢ p → has i xs ≡ true → has i (without p xs) ≡ true
without_has p i [] ne h = h
without_has p i (q ∷ qs) ne h = ⊎_elim
    (λ y. ap (has i) (cond-true (eqb p q) qs (q ∷ without p qs) y) ∙ (sym (cond-false (eqb i q) true (has i qs) (ne_eqb i q (λ e. ne (e ∙ sym (eqb-true p q y))))) ∙ h))
    (λ n. ap (has i) (cond-false (eqb p q) qs (q ∷ without p qs) n) ∙ ⊎_elim
    (λ a. cond-true (eqb i q) true (has i (without p qs)) a)
    (λ b. cond-false (eqb i q) true (has i (without p qs)) b ∙ without_has p i qs ne (sym (cond-false (eqb i q) true (has i qs) b) ∙ h))
    (cases_Bool (eqb i q)))
    (cases_Bool (eqb p q))

-- distinct numbers that are all in a list are no more than it has
no_more : (ys xs : List ℕ) → Distinct ys → ((i : ℕ) → has i ys ≡ true → has i xs ≡ true) → length ys ≤ length xs
no_more [] xs d f = omega arith
no_more (y ∷ ys) xs d f =
    let l = without_length y xs (f y (cond-true (eqb y y) true (has y ys) (eq-eqb y y refl))) in
    let r = no_more ys (without y xs) d.1 (λ i h. without_has y i xs (λ e. both_ways (has y ys) d.0 (ap (λ (k : ℕ). has k ys) (sym e) ∙ h)) (f i (later i h))) in
    omega arith
  where
    later : (i : ℕ) → has i ys ≡ true → has i (y ∷ ys) ≡ true
    later i h = ⊎_elim (λ a. cond-true (eqb i y) true (has i ys) a) (λ b. cond-false (eqb i y) true (has i ys) b ∙ h) (cases_Bool (eqb i y))

-- ys are distinct, and among xs and p
pub one_more : (xs ys : List ℕ) (p : ℕ) → Distinct ys → ((i : ℕ) → has i ys ≡ true → (has i xs ≡ true) ⊎ (i ≡ p)) → length ys ≤ length xs + 1
one_more xs ys p d f = let r = no_more ys (p ∷ xs) d (λ i h. ⊎_elim (among i) (λ e. cond-true (eqb i p) true (has i xs) (eq-eqb i p e)) (f i h)) in omega arith
  where
    among : (i : ℕ) → has i xs ≡ true → has i (p ∷ xs) ≡ true
    among i h = ⊎_elim (λ a. cond-true (eqb i p) true (has i xs) a) (λ b. cond-false (eqb i p) true (has i xs) b ∙ h) (cases_Bool (eqb i p))
