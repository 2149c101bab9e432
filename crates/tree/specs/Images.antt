-- A directory of 2 ^ w entries, and the pages behind it. Entry i, read as w bits, names a page of local depth d i that has the records recs i; several entries may name one page.
use Rattle.std.specs.Prelude.{◌≡◌, ℕ, zero, suc, ◌+◌, ◌-◌, ◌%◌, ◌^◌, ◌<◌, ◌≤◌, cond, ◌⊎◌, List, [], ◌++◌, sum_by, ◌==◌, ◌≢◌}
use Rattle.std.specs.List.{AllByRecursion}
use Rattle.tree.specs.Prefix.{pre, sib}
use Rattle.tree.specs.Loads.{Loads, load}
use Rattle.tree.specs.Trees.{room, Falls}
use Rattle.tree.specs.Members.{In}

-- each entry stands for its first d i bits: these are no more than it has, and each entry that begins with them stands for as many
pub record Parts (w : ℕ) (d : ℕ → ℕ) : Type 0 where
  pub short : (i : ℕ) → i < 2 ^ w → d i ≤ w
  pub whole : (i j : ℕ) → i < 2 ^ w → j < 2 ^ w → pre w j (d i) ≡ pre w i (d i) → d j ≡ d i

-- the local test: each prefix fits, and no two siblings would fit together
pub record Tested (L : Loads) (w : ℕ) (d : ℕ → ℕ) : Type 0 where
  pub fits : (i : ℕ) → i < 2 ^ w → L (d i) (pre w i (d i)) ≤ room
  pub full : (i j n : ℕ) → i < 2 ^ w → j < 2 ^ w → d i ≡ suc n → d j ≡ suc n → pre w j (suc n) ≡ sib (pre w i (suc n))
      → room < L (suc n) (pre w i (suc n)) + L (suc n) (pre w j (suc n))

-- what each page says of itself is right: its entries are those that begin with one prefix, they lead to the same records, and these have hashes that begin with it
pub record Pages {X : Type 0} (hash : X → ℕ) (w : ℕ) (d : ℕ → ℕ) (recs : ℕ → List X) : Type 0 where
  pub parts : Parts w d
  pub shared : (i j : ℕ) → i < 2 ^ w → j < 2 ^ w → pre w j (d i) ≡ pre w i (d i) → recs j ≡ recs i
  pub begin : (i : ℕ) → i < 2 ^ w → AllByRecursion (λ x. pre 32 (hash x) (d i) ≡ pre w i (d i)) (recs i)

-- f 0, f 1, up to f (n - 1), joined
unfoldable pub gathered : {X : Type 0} → (ℕ → List X) → ℕ → List X
gathered f zero = []
gathered f (suc n) = gathered f n ++ f n

-- the records of a page at its first entry, and none at its others
abbrev pub at_first : {X : Type 0} → ℕ → (ℕ → ℕ) → (ℕ → List X) → ℕ → List X
at_first w d recs j = cond (j % 2 ^ (w - d j) == 0) (recs j) []

-- the records of all pages, each page counted once
abbrev pub image_map : {X : Type 0} → ℕ → (ℕ → ℕ) → (ℕ → List X) → List X
image_map w d recs = gathered (at_first w d recs) (2 ^ w)

-- the local test by the bytes of the pages alone: each page fits, and no two sibling pages would fit together
pub record BytesTested {X : Type 0} (weight : X → ℕ) (w : ℕ) (d : ℕ → ℕ) (recs : ℕ → List X) : Type 0 where
  pub fits : (i : ℕ) → i < 2 ^ w → sum_by weight (recs i) ≤ room
  pub full : (i j n : ℕ) → i < 2 ^ w → j < 2 ^ w → d i ≡ suc n → d j ≡ suc n → pre w j (suc n) ≡ sib (pre w i (suc n)) → room < sum_by weight (recs i) + sum_by weight (recs j)

-- xs are the records of m whose hash begins with the n bits p
abbrev pub Begun : {X : Type 0} → (X → ℕ) → List X → ℕ → ℕ → List X → Type 0
Begun {X} hash m n p xs = (x : X) → (In x xs → In x m × (pre 32 (hash x) n ≡ p)) × (In x m → pre 32 (hash x) n ≡ p → In x xs)

-- the directory holds the map m: each entry leads to the bucket of m's tree that it begins with, and to the records of that bucket
pub record Holds {X : Type 0} (hash weight : X → ℕ) (m : List X) (w : ℕ) (d : ℕ → ℕ) (recs : ℕ → List X) : Type 0 where
  pub short : (i : ℕ) → i < 2 ^ w → d i ≤ w
  pub falls : (i : ℕ) → i < 2 ^ w → Falls (load hash weight m) w i (d i)
  pub has : (i : ℕ) → i < 2 ^ w → Begun hash m (d i) (pre w i (d i)) (recs i)

-- entry i after the bucket of h, of l bits, was split down to n bits, from d and recs to d' and recs': it does not begin with that bucket and is as it was;
-- or it leaves h's path behind j bits, and leads to the sibling there; or it leads to h's own bucket
abbrev pub SplitEntry : {X : Type 0} → (X → ℕ) → ℕ → ℕ → ℕ → List X → ℕ → (ℕ → ℕ) → (ℕ → ℕ) → (ℕ → List X) → (ℕ → List X) → ℕ → Type 0
SplitEntry hash h l n m' w d d' recs recs' i =
    ((pre w i l ≢ pre 32 h l) × (d i ≡ d' i) × (recs i ≡ recs' i))
    ⊎ ((j : ℕ) × (l ≤ j) × (j < n) × (pre w i j ≡ pre 32 h j) × (pre w i (suc j) ≢ pre 32 h (suc j)) × (suc j ≡ d' i) × Begun hash m' (suc j) (pre w i (suc j)) (recs' i))
    ⊎ ((pre w i n ≡ pre 32 h n) × (n ≡ d' i) × Begun hash m' n (pre w i n) (recs' i))

-- entry i after the buckets at and below h's first n bits were merged into one: it does not begin with these bits and is as it was; or it leads to the one bucket
abbrev pub MergedEntry : {X : Type 0} → (X → ℕ) → ℕ → ℕ → List X → ℕ → (ℕ → ℕ) → (ℕ → ℕ) → (ℕ → List X) → (ℕ → List X) → ℕ → Type 0
MergedEntry hash h n m' w d d' recs recs' i =
    ((pre w i n ≢ pre 32 h n) × (d i ≡ d' i) × (recs i ≡ recs' i)) ⊎ ((pre w i n ≡ pre 32 h n) × (n ≡ d' i) × Begun hash m' n (pre w i n) (recs' i))
