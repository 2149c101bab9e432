-- Arrays that a loop fills.
use Rattle.std.proofs.Common.{◌≡◌, ℕ, ◌+◌, ◌*◌, ◌%◌, ◌^◌, ◌<◌, ◌≤◌, List, length, set, sym, ap, ◌∙◌, ⊎_elim, arith, get_or-set_other, get_or-set_same, pow_mono}
use Rattle.std.proofs.lemmas.Nat.{one_shl}
use Rattle.std.proofs.lemmas.Bool.{cases_lt, cases_eq}
use Rattle.directory.specs.Names.{at}

-- element k after element i became x
pub at_set : (xs : List ℕ) (i x k y : ℕ) → i < length xs → (k ≡ i → x ≡ y) → ((k ≡ i → ⊥) → at xs k ≡ y) → at (set xs i x) k ≡ y
at_set xs i x k y l same other =
    ⊎_elim (λ e. ap (at (set xs i x)) e ∙ get_or-set_same xs i x 0 l ∙ same e) (λ ne. get_or-set_other xs i k x 0 ne ∙ other ne) (cases_eq k i)

-- xs is f below i, and ys from there on
pub record Filled (xs ys : List ℕ) (f : ℕ → ℕ) (i : ℕ) : Type 0 where
  pub below : (k : ℕ) → k < i → at xs k ≡ f k
  pub above : (k : ℕ) → i ≤ k → at xs k ≡ at ys k

-- element i is f i
pub filled_kept : (xs ys : List ℕ) (f : ℕ → ℕ) (i : ℕ) → at ys i ≡ f i → Filled xs ys f i → Filled xs ys f (i + 1)
filled_kept xs ys f i e r =
    record {
      below = λ k h. ⊎_elim (λ lt. r.below k lt) (λ ge. let z : k ≡ i = omega arith in ap (at xs) z ∙ r.above i (omega arith) ∙ e ∙ ap f (sym z)) (cases_lt k i);
      above = λ k h. r.above k (omega arith);
    }

-- element i becomes f i
pub filled_more : (xs ys : List ℕ) (f : ℕ → ℕ) (i x : ℕ) → i < length xs → x ≡ f i → Filled xs ys f i → Filled (set xs i x) ys f (i + 1)
filled_more xs ys f i x l e r =
    record {
      below = λ k h. at_set xs i x k (f k) l (λ z. e ∙ ap f (sym z)) (λ ne. r.below k (omega arith));
      above = λ k h. at_set xs i x k (at ys k) l (λ z. absurd (omega arith)) (λ ne. r.above k (omega arith));
    }

-- 1 << n, for at most eight bits
pub wide_is : (n : ℕ) → n ≤ 8 → (1 * 2 ^ n) % 2 ^ 64 ≡ 2 ^ n
wide_is n h = one_shl n 64 (omega arith)

pub wide_le : (n : ℕ) → n ≤ 8 → 2 ^ n ≤ 256
wide_le n h = pow_mono {i = n} {j = 8} h
