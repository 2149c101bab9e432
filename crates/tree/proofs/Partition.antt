-- The buckets of a load part the hashes among them.
use Rattle.std.proofs.Common.{◌≡◌, ℕ, zero, suc, ◌+◌, ◌/◌, ◌<◌, ◌≤◌, ◌⊎◌, ap, ◌∙◌, inl, inr, ⊎_elim, arith}
use Rattle.std.proofs.lemmas.Bool.{cases_lt, cases_order}
use Rattle.tree.specs.Prefix.{pre}
use Rattle.tree.specs.Loads.{Loads, Splits}
use Rattle.tree.specs.Trees.{room, Bucket, Falls}
use Rattle.tree.proofs.Prefixes.{pre_pre, pre_up, pre_self}
use Rattle.tree.proofs.Loading.{load_mono}

-- ---- every number of w bits has one bucket at most

pub falls_once : (L : Loads) (w x n m : ℕ) → Falls L w x n → Falls L w x m → n ≡ m
falls_once L w x n m a b =
    ⊎_elim (λ e. e) (⊎_elim (λ h. absurd (omega (arith, a.0, b.1 n h))) (λ h. absurd (omega (arith, b.0, a.1 m h)))) (cases_order n m)

-- what a number falls into is a bucket, and a bucket that it begins with is what it falls into
pub falls_bucket : (L : Loads) (w x n : ℕ) → n ≤ w → Falls L w x n → Bucket L n (pre w x n)
falls_bucket L w x n h a = (a.0, λ k l. omega (arith, a.1 k l, ap (L k) (pre_pre w x n k (omega arith) h)))

pub bucket_falls : (L : Loads) (w x n : ℕ) → n ≤ w → Bucket L n (pre w x n) → Falls L w x n
bucket_falls L w x n h a = (a.0, λ k l. omega (arith, a.1 k l, ap (L k) (pre_pre w x n k (omega arith) h)))

-- a bucket is what it falls into itself
pub bucket_itself : (L : Loads) (n p : ℕ) → Bucket L n p → Falls L n p n
bucket_itself L n p a = (omega (arith, a.0, ap (L n) (pre_self n p)), a.1)

-- ---- and one at least, if its first eight bits have room

-- the first place at or after n at which f is at most 248, up to n + d, or none
first_from : (f : ℕ → ℕ) (d n : ℕ) → ((k : ℕ) → k < n → room < f k)
    → ((m : ℕ) × (m ≤ n + d) × (f m ≤ room) × ((k : ℕ) → k < m → room < f k)) ⊎ ((k : ℕ) → k ≤ n + d → room < f k)
first_from f zero n a =
    ⊎_elim (λ h. inr (λ k l. ⊎_elim (λ lt. a k lt) (λ ge. let e : k ≡ n = omega arith in rw e h) (cases_lt k n))) (λ h. inl (n, omega arith, h, a)) (cases_lt room (f n))
first_from f (suc d) n a =
    ⊎_elim
    (λ h. ⊎_elim (λ r. inl (r.0, omega (arith, r.1), r.2, r.3)) (λ r. inr (λ k l. r k (omega arith)))
    (first_from f d (suc n) (λ k l. ⊎_elim (λ lt. a k lt) (λ ge. let e : k ≡ n = omega arith in rw e h) (cases_lt k n))))
    (λ h. inl (n, omega arith, h, a)) (cases_lt room (f n))

pub has_bucket : (L : Loads) (w x : ℕ) → L 8 (pre w x 8) ≤ room → (m : ℕ) × (m ≤ 8) × Falls L w x m
has_bucket L w x h =
    ⊎_elim (λ r. (r.0, omega (arith, r.1), (r.2, r.3))) (λ r. absurd (omega (arith, r 8 (omega arith))))
    (first_from (λ n. L n (pre w x n)) 8 0 (λ k l. absurd (omega arith)))

-- ---- a bucket told by its own load and by that of one bit less

pub bucket_from : (L : Loads) → Splits L → (n q : ℕ) → n < 32 → L (suc n) q ≤ room → room < L n (q / 2) → Bucket L (suc n) q
bucket_from L s n q h a b =
    (a, λ k l. omega (arith, load_mono L s n (q / 2) k (omega arith) (omega arith), ap (L k) (pre_up n q k (omega arith))))

pub bucket_parent : (L : Loads) (n q : ℕ) → Bucket L (suc n) q → room < L n (q / 2)
bucket_parent L n q a = omega (arith, a.1 n (omega arith), ap (L n) (pre_up n q n (omega arith) ∙ pre_self n (q / 2)))
