-- What a change that makes loads greater does to the buckets.
use Rattle.std.proofs.Common.{◌≡◌, ℕ, zero, suc, ◌/◌, ◌<◌, ◌≤◌, ◌⊎◌, sym, ap, ◌∙◌, subst, inl, inr, ⊎_elim, arith}
use Rattle.std.proofs.lemmas.Bool.{cases_lt, cases_order, cases_eq}
use Rattle.tree.specs.Prefix.{pre, sib}
use Rattle.tree.specs.Loads.{Loads, Splits}
use Rattle.tree.specs.Trees.{room, Bucket, Falls, Replacing}
use Rattle.tree.proofs.Prefixes.{pre_step}
use Rattle.tree.proofs.Loading.{path_mono, path_sib}
use Rattle.tree.proofs.Partition.{falls_once, falls_bucket, bucket_falls, bucket_from, bucket_parent}

-- L' is the greater of two loads, and differs from L at prefixes of the hash h alone
pub record Grows (h : ℕ) (L L' : Loads) : Type 0 where
  pub off : (n p : ℕ) → (p ≡ pre 32 h n → ⊥) → L' n p ≡ L n p
  pub on : (n : ℕ) → L n (pre 32 h n) ≤ L' n (pre 32 h n)

pub sib_other : (q : ℕ) → sib q ≡ q → ⊥
sib_other q e = omega arith

pub sib_parent : (q : ℕ) → sib q / 2 ≡ q / 2
sib_parent q = omega arith

pub sib_only : (p q : ℕ) → p / 2 ≡ q / 2 → (p ≡ q → ⊥) → p ≡ sib q
sib_only p q e n = ⊎_elim (λ l. absurd (n l)) (⊎_elim (λ (l : p < q). omega arith) (λ (l : q < p). omega arith)) (cases_order p q)

module _ (h : ℕ) (L L' : Loads) (s : Splits L) (s' : Splits L') (g : Grows h L L') where
  -- no load is smaller
  pub grows_le : (n p : ℕ) → L n p ≤ L' n p
  grows_le n p = ⊎_elim (λ e. rw e (g.on n)) (λ e. omega (arith, g.off n p e)) (cases_eq p (pre 32 h n))

  -- the bucket of h is as long or longer
  pub grown_longer : (l m : ℕ) → Falls L 32 h l → Falls L' 32 h m → l ≤ m
  grown_longer l m a b = ⊎_elim (λ lt. absurd (omega (arith, a.1 m lt, b.0, g.on m))) (λ ge. ge) (cases_lt m l)

  -- a bucket that h does not begin with stays
  grown_stays : (n p : ℕ) → (p ≡ pre 32 h n → ⊥) → Bucket L n p → Bucket L' n p
  grown_stays n p e b = (omega (arith, g.off n p e, b.0), λ k l. omega (arith, b.1 k l, grows_le k (pre n p k)))

  module _ (l m : ℕ) (short : m ≤ 32) (a : Falls L 32 h l) (b : Falls L' 32 h m) where
    -- each sibling on the way from the old bucket to the new is a bucket
    pub grown_sibling : (n : ℕ) → l ≤ n → n < m → Bucket L' (suc n) (sib (pre 32 h (suc n)))
    grown_sibling n low high =
        bucket_from L' s' n (sib (pre 32 h (suc n))) (omega arith)
        (omega (
          arith,
          g.off (suc n) (sib (pre 32 h (suc n))) (sib_other (pre 32 h (suc n))),
          path_sib L s 32 h n (omega arith) (omega arith),
          path_mono L s 32 h n l low (omega arith) (omega arith),
          a.0,
        ))
        (omega (arith, b.1 n high, ap (L' n) (pre_step 32 h n (omega arith) ∙ sym (sib_parent (pre 32 h (suc n))))))

    grown_own_once : (n : ℕ) → n ≤ 32 → Bucket L' n (pre 32 h n) → n ≡ m
    grown_own_once n k c = falls_once L' 32 h n m (bucket_falls L' 32 h n k c) b

    off_cases : (n p : ℕ) → n < 32 → (p ≡ pre 32 h (suc n) → ⊥) → Bucket L' (suc n) p
        → Bucket L (suc n) p ⊎ ((l ≤ n) × (n < m) × (p ≡ sib (pre 32 h (suc n))))
    off_cases n p k e c =
        ⊎_elim (λ heavy. inl (bucket_from L s n p k (omega (arith, g.off (suc n) p e, c.0)) heavy))
        (λ small.
        ⊎_elim (λ at. inr (
          ⊎_elim (λ (lt : n < l). absurd (omega (arith, a.1 n lt, ap (L n) at))) (λ ge. ge) (cases_lt n l),
          ⊎_elim (λ lt. lt) (λ (ge : m ≤ n). absurd (omega (arith, path_mono L' s' 32 h n m ge (omega arith) (omega arith), b.0, ap (L' n) at, bucket_parent L' n p c))) (cases_lt n m),
          sib_only p (pre 32 h (suc n)) (at ∙ pre_step 32 h n k) e,
        ))
        (λ no. absurd (omega (arith, g.off n (p / 2) no, bucket_parent L' n p c))) (cases_eq (p / 2) (pre 32 h n)))
        (cases_lt room (L n (p / 2)))

    -- all buckets after the change: those before that h does not begin with, the siblings on the way down, and h's own
    pub grown_cases : (n p : ℕ) → n ≤ 32 → Bucket L' n p → Replacing h l m L n p
    grown_cases zero p k c =
        ⊎_elim (λ e. let z : 0 ≡ m = grown_own_once 0 k (rw (← e) c) in inr (inr (z, e ∙ ap (pre 32 h) z)))
        (λ e. inl (e, (omega (arith, g.off 0 p e, c.0), λ j i. absurd (omega arith)))) (cases_eq p (pre 32 h 0))
    grown_cases (suc n) p k c =
        ⊎_elim (λ e. let z : suc n ≡ m = grown_own_once (suc n) k (rw (← e) c) in inr (inr (z, e ∙ ap (pre 32 h) z)))
        (λ e. ⊎_elim (λ b. inl (e, b)) (λ r. inr (inl (omega (arith, r.0), r.1, r.2))) (off_cases n p k e c)) (cases_eq p (pre 32 h (suc n)))

    sibling_at : (n : ℕ) → l < n → n ≤ m → Bucket L' n (sib (pre 32 h n))
    sibling_at zero low high = absurd (omega arith)
    sibling_at (suc n) low high = grown_sibling n (omega arith) high

    -- and each of these is a bucket then
    pub cases_grown : (n p : ℕ) → Replacing h l m L n p → Bucket L' n p
    cases_grown n p (inl r) = grown_stays n p r.0 r.1
    cases_grown n p (inr (inl r)) = subst (Bucket L' n) (sym r.2) (sibling_at n r.0 r.1)
    cases_grown n p (inr (inr r)) = subst (Bucket L' n) (sym r.1) (subst (λ j. Bucket L' j (pre 32 h m)) (sym r.0) (falls_bucket L' 32 h m short b))
