-- What a check of an image gathers of each entry, and what it then tests. E i is the page that entry i names, D i that page's local depth, S i the bytes and C i the number of its records; the
-- directory has w bits.
use Rattle.std.specs.Prelude.{◌≡◌, ℕ, zero, suc, ◌+◌, ◌-◌, ◌%◌, ◌^◌, ◌<◌, ◌≤◌, cond, true, false, ◌⊎◌, List, ◌==◌, slice_index, slice_index_or}
use Rattle.std.specs.List.{AllByRecursion}
use Rattle.keys.specs.Rule.{Rule}
use Rattle.tree.specs.Prefix.{pre, sib}
use Rattle.tree.specs.Loads.{Loads, Splits, hashed}
use Rattle.tree.specs.Trees.{Falls, number}
use Rattle.tree.specs.Maps.{Rec, Apart}
use Rattle.pages.specs.declared.root.Root.{Root}
use Rattle.pages.specs.declared.survey.Bucket.{Bucket}

-- what an array has for entry i
abbrev pub at : List ℕ → ℕ → ℕ
at xs i = slice_index xs i

-- the bucket that an array has for entry i, and its local depth, the bytes and the number of its records
abbrev pub bucket_at : List Bucket → ℕ → Bucket
bucket_at bs i = slice_index_or bs i (record { depth = 0; bytes = 0; count = 0; placed = false })

abbrev pub depth_at : List Bucket → ℕ → ℕ
depth_at bs i = (bucket_at bs i).depth

abbrev pub bytes_at : List Bucket → ℕ → ℕ
bytes_at bs i = (bucket_at bs i).bytes

abbrev pub count_at : List Bucket → ℕ → ℕ
count_at bs i = (bucket_at bs i).count

-- no bucket has more bits than the directory
abbrev pub Narrow : List Bucket → ℕ → Type 0
Narrow bs w = (i : ℕ) → i < 2 ^ w → depth_at bs i ≤ w

-- no bucket has more bits than the directory, or records that stand behind a wrong entry
abbrev pub AllPlaced : List Bucket → ℕ → Type 0
AllPlaced bs w = (i : ℕ) → i < 2 ^ w → ((bucket_at bs i).placed ≡ true) × (depth_at bs i ≤ w)

-- entry j names the page of entry i exactly if it begins with that page's prefix
abbrev pub EntryAgrees : (ℕ → ℕ) → (ℕ → ℕ) → ℕ → ℕ → ℕ → Type 0
EntryAgrees E D w i j = (E j ≡ E i → pre w j (D i) ≡ pre w i (D i)) × (pre w j (D i) ≡ pre w i (D i) → E j ≡ E i)

-- the page of entry i has no more bits than the directory, and the entries that name it are those that begin with its prefix
abbrev pub EntryPlaced : (ℕ → ℕ) → (ℕ → ℕ) → ℕ → ℕ → Type 0
EntryPlaced E D w i = (D i ≤ w) × ((j : ℕ) → j < 2 ^ w → EntryAgrees E D w i j)

-- the same of all entries
abbrev pub EntriesPlaced : (ℕ → ℕ) → (ℕ → ℕ) → ℕ → Type 0
EntriesPlaced E D w = (i : ℕ) → i < 2 ^ w → EntryPlaced E D w i

-- the pages of entries i and j are no siblings, or would not fit together
abbrev pub PairFull : (ℕ → ℕ) → (ℕ → ℕ) → ℕ → ℕ → ℕ → Type 0
PairFull D S w i j = D j ≡ D i → 0 < D i → pre w j (D i) ≡ sib (pre w i (D i)) → 248 < S i + S j

-- the same of entry i and any other
abbrev pub SiblingFull : (ℕ → ℕ) → (ℕ → ℕ) → ℕ → ℕ → Type 0
SiblingFull D S w i = (j : ℕ) → j < 2 ^ w → PairFull D S w i j

-- the same of all pairs
abbrev pub SiblingsFull : (ℕ → ℕ) → (ℕ → ℕ) → ℕ → Type 0
SiblingsFull D S w = (i : ℕ) → i < 2 ^ w → SiblingFull D S w i

-- some page has all the bits of the directory
abbrev pub DepthUsed : (ℕ → ℕ) → ℕ → Type 0
DepthUsed D w = (w ≡ 0) ⊎ ((i : ℕ) × (i < 2 ^ w) × (D i ≡ w))

-- the number of the records of the pages of the first entries, each page counted at its first entry
unfoldable pub counted : (ℕ → ℕ) → (ℕ → ℕ) → ℕ → ℕ → ℕ
counted D C w zero = 0
counted D C w (suc n) = counted D C w n + cond (n % 2 ^ (w - D n) == 0) (C n) 0

-- the hashes of records begin with the d bits p, and no two keys are the same
abbrev pub RecordsPlaced : Rule → ℕ → ℕ → List Rec → Type 0
RecordsPlaced R d p rs = AllByRecursion (λ x. pre 32 (hashed R x) d ≡ p) rs × Apart R rs

-- r is the number of pages, where these are the buckets of a tree
abbrev pub NumberRight : (ℕ → ℕ) → ℕ → ℕ → Type 0
NumberRight D w r = (L : Loads) → Splits L → ((i : ℕ) → i < 2 ^ w → Falls L w i (D i)) → r ≡ number L

-- what is tested of the tree against the numbers x of page 0: r is the number of pages
pub record TreeTested (D S C : ℕ → ℕ) (x : Root) (r : ℕ) : Type 0 where
  pub siblings : SiblingsFull D S x.depth
  pub deepest : DepthUsed D x.depth
  pub used : x.used ≡ r
  pub records : x.records ≡ counted D C x.depth (2 ^ x.depth)

-- records of a bucket of d bits stand rightly behind entry i of a directory of w bits
abbrev pub StandsBehind : Rule → ℕ → ℕ → ℕ → List Rec → Type 0
StandsBehind R d i w rs = (d ≤ w) × RecordsPlaced R d (pre w i d) rs
