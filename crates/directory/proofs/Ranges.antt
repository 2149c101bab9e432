-- Tests of the numbers of a range.
use Rattle.std.proofs.Common.{◌≡◌, ℕ, ◌+◌, ◌<◌, ◌≤◌, Bool, true, false, length, Option, None, Some, MatchBool, MatchOption, subst, ◌∙◌, arith}
use Rattle.std.specs.List.{AllWithin, HoldsAt, range_with_len}
use Rattle.std.proofs.lemmas.List.FromFn.{get_or-range_with_len, length-range_with_len}
use Rattle.directory.specs.Names.{Named, Free, NoneFree, FirstFree}

-- of each number below n, or of one
pub range_told : (P N : ℕ → Type 0) (r : Bool) (n : ℕ)
    → MatchBool r (AllWithin P (range_with_len 0 n) 0 (length (range_with_len 0 n))) ((k : ℕ) × (k < length (range_with_len 0 n)) × HoldsAt N (range_with_len 0 n) k)
    → MatchBool r ((i : ℕ) → i < n → P i) ((i : ℕ) × (i < n) × N i)
range_told P N true n a = λ i l.
    let z : 0 + i ≡ i = omega arith in
    subst P (get_or-range_with_len 0 n i 0 l ∙ z) (a i 0 (omega arith) (omega (arith, length-range_with_len 0 n)))
range_told P N false n a =
    let h : a.0 < n = omega (arith, a.1, length-range_with_len 0 n) in
    let z : 0 + a.0 ≡ a.0 = omega arith in
    (a.0, h, subst N (get_or-range_with_len 0 n a.0 0 h ∙ z) (a.2 0))

-- the first page that is free
pub first_free : (w limit : ℕ) (E : ℕ → ℕ) (first : ℕ) (r : Option ℕ) → first ≡ 5
    → MatchOption r ((k : ℕ) → first ≤ k → k < first + limit → Named w E k) (λ q. (first ≤ q) × (q < first + limit) × Free w E q × ((k : ℕ) → first ≤ k → k < q → Named w E k))
    → MatchOption r (NoneFree w limit E) (FirstFree w limit E)
first_free w limit E first None e h = λ q low high. h q (omega arith) (omega arith)
first_free w limit E first (Some q) e h = record { low = omega (arith, h.0); high = omega (arith, h.1); free = h.2; first = λ p low lt. h.3 p (omega arith) lt }
