-- The tree of a load: which prefixes are buckets.
use Rattle.std.specs.Prelude.{◌≡◌, ℕ, zero, suc, ◌+◌, ◌*◌, ◌^◌, ◌<◌, ◌≤◌, max, true, false, ◌⊎◌, List, [], ◌∷◌, ◌++◌, length, ◌≢◌, nat_le}
use Rattle.tree.specs.Prefix.{pre, sib}
use Rattle.tree.specs.Loads.{Loads}

-- the most bytes of records that a bucket has room for
abbrev pub room : ℕ
room = 248

-- the most bits of a bucket: no put may leave more than 248 under any eight bits
abbrev pub deepest : ℕ
deepest = 8

-- the prefix p of n bits is a bucket: its load is at most 248, and that of every shorter prefix of it exceeds 248
abbrev pub Bucket : Loads → ℕ → ℕ → Type 0
Bucket L n p = (L n p ≤ room) × ((k : ℕ) → k < n → room < L k (pre n p k))

-- the number x of w bits, a hash or an entry of the directory, begins with a bucket of n bits
abbrev pub Falls : Loads → ℕ → ℕ → ℕ → Type 0
Falls L w x n = (L n (pre w x n) ≤ room) × ((k : ℕ) → k < n → room < L k (pre w x k))

-- the buckets at the prefix p of n bits and below it, as far as d bits further, from left to right
unfoldable pub tree : Loads → ℕ → ℕ → ℕ → List (ℕ × ℕ)
tree L zero n p = elim (nat_le (L n p) room) [ true ↦ (n, p) ∷ [] | false ↦ [] ]
tree L (suc d) n p = elim (nat_le (L n p) room) [ true ↦ (n, p) ∷ [] | false ↦ tree L d (suc n) (2 * p) ++ tree L d (suc n) (2 * p + 1) ]

-- all buckets, each by its length and its bits
abbrev pub buckets : Loads → List (ℕ × ℕ)
buckets L = tree L deepest 0 0

-- how many there are
abbrev pub number : Loads → ℕ
number L = length (buckets L)

-- the length of the longest prefix listed
unfoldable pub longest : List (ℕ × ℕ) → ℕ
longest [] = 0
longest (b ∷ bs) = max b.0 (longest bs)

-- the depth is that of the longest bucket; the directory has 2 ^ depth entries
abbrev pub depth : Loads → ℕ
depth L = longest (buckets L)

-- no eight bits have a load above 248
abbrev pub Roomy : Loads → Type 0
Roomy L = (p : ℕ) → p < 2 ^ deepest → L deepest p ≤ room

-- the prefix p of k bits is one of these: a bucket of L that h does not begin with; a sibling of h's first l + 1 to n bits; h's first n bits
abbrev pub Replacing : ℕ → ℕ → ℕ → Loads → ℕ → ℕ → Type 0
Replacing h l n L k p =
    ((p ≢ pre 32 h k) × Bucket L k p) ⊎ ((l < k) × (k ≤ n) × (p ≡ sib (pre 32 h k))) ⊎ ((k ≡ n) × (p ≡ pre 32 h n))

-- from L to L' the one bucket that the hash h begins with, of l bits, is replaced: by the siblings along h's path down to n bits, and by h's own n bits
pub record SplitDown (h l n : ℕ) (L L' : Loads) : Type 0 where
  pub longer : l ≤ n
  pub within : n ≤ deepest
  -- what is replaced
  pub old : Bucket L l (pre 32 h l)
  -- the buckets of L', no more and no fewer
  pub new : (k p : ℕ) → k ≤ 32 → (Bucket L' k p → Replacing h l n L k p) × (Replacing h l n L k p → Bucket L' k p)
  -- one more for each bit further
  pub more : number L' + l ≡ number L + n
