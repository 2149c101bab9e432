-- Loads split, and fall along a prefix.
use Rattle.std.proofs.Common.{◌≡◌, ℕ, zero, suc, ◌+◌, ◌*◌, ◌/◌, ◌%◌, ◌<◌, ◌≤◌, cond, eqb, ◌⊎◌, List, [], ◌∷◌, refl, ap, inl, inr, ⊎_elim, arith}
use Rattle.std.proofs.lemmas.Bool.{cases_lt}
use Rattle.std.proofs.lemmas.List.Sums.{sum_by-cons}
use Rattle.std.proofs.lemmas.Bool.Decides.{nat_tests}
use Rattle.tree.specs.Prefix.{pre, sib}
use Rattle.tree.specs.Loads.{Loads, load, Splits}
use Rattle.tree.proofs.Prefixes.{pre_step, pre_pre, pre_up, pre_self}

module _ {X : Type 0} (hash size : X → ℕ) where
  pub load_cons : (x : X) (xs : List X) (n p : ℕ) → load hash size (x ∷ xs) n p ≡ cond (eqb (pre 32 (hash x) n) p) (size x) 0 + load hash size xs n p
  unfolding load
  load_cons x xs n p = sum_by-cons _ x xs

  pub load_nil : (n p : ℕ) → load hash size [] n p ≡ 0
  unfolding load
  load_nil n p = refl

one_splits : (a b p s : ℕ) → a ≡ b / 2 → cond (eqb a p) s 0 ≡ cond (eqb b (2 * p)) s 0 + cond (eqb b (2 * p + 1)) s 0
one_splits a b p s e = grind (arith, nat_tests)

pub load_splits : {X : Type 0} (hash size : X → ℕ) (xs : List X) → Splits (load hash size xs)
load_splits hash size [] n p h = rw (load_nil hash size n p, load_nil hash size (suc n) (2 * p), load_nil hash size (suc n) (2 * p + 1))
load_splits hash size (x ∷ xs) n p h =
    omega (
      arith,
      load_cons hash size x xs n p,
      load_cons hash size x xs (suc n) (2 * p),
      load_cons hash size x xs (suc n) (2 * p + 1),
      one_splits (pre 32 (hash x) n) (pre 32 (hash x) (suc n)) p (size x) (pre_step 32 (hash x) n h),
      load_splits hash size xs n p h,
    )

-- the two bits that a prefix can end in
pub halves : (q : ℕ) → ((q ≡ 2 * (q / 2)) × (sib q ≡ 2 * (q / 2) + 1)) ⊎ ((q ≡ 2 * (q / 2) + 1) × (sib q ≡ 2 * (q / 2)))
halves q = ⊎_elim (λ e. inl (omega arith, omega arith)) (λ e. inr (omega arith, omega arith)) (cases_lt (q % 2) 1)

module _ (L : Loads) (s : Splits L) where
  -- a prefix's load is that of the two that are one bit longer: q, and its sibling
  load_sib : (n q : ℕ) → n < 32 → L n (q / 2) ≡ L (suc n) q + L (suc n) (sib q)
  load_sib n q h =
      ⊎_elim (λ e. omega (arith, s n (q / 2) h, ap (L (suc n)) e.0, ap (L (suc n)) e.1))
      (λ e. omega (arith, s n (q / 2) h, ap (L (suc n)) e.0, ap (L (suc n)) e.1)) (halves q)

  -- one bit more
  load_down : (n q : ℕ) → n < 32 → L (suc n) q ≤ L n (q / 2)
  load_down n q h = omega (arith, load_sib n q h)

  -- a longer prefix has at most the load of a shorter one
  pub load_mono : (n p k : ℕ) → k ≤ n → n ≤ 32 → L n p ≤ L k (pre n p k)
  load_mono zero p k h l = let e : k ≡ 0 = omega arith in rw e (omega (arith, ap (L 0) (pre_self 0 p)))
  load_mono (suc n) p k h l =
      ⊎_elim (λ lt. omega (arith, load_down n p (omega arith), load_mono n (p / 2) k (omega arith) (omega arith), ap (L k) (pre_up n p k (omega arith))))
      (λ (ge : suc n ≤ k). let e : k ≡ suc n = omega arith in rw e (omega (arith, ap (L (suc n)) (pre_self (suc n) p)))) (cases_lt k (suc n))

  -- the same along the path of a w-bit number
  pub path_mono : (w x n k : ℕ) → k ≤ n → n ≤ w → n ≤ 32 → L n (pre w x n) ≤ L k (pre w x k)
  path_mono w x n k h l m = omega (arith, load_mono n (pre w x n) k h m, ap (L k) (pre_pre w x n k h l))

  -- the split along it
  pub path_sib : (w x n : ℕ) → n < w → n < 32 → L n (pre w x n) ≡ L (suc n) (pre w x (suc n)) + L (suc n) (sib (pre w x (suc n)))
  path_sib w x n h l = omega (arith, load_sib n (pre w x (suc n)) l, ap (L n) (pre_step w x n h))
