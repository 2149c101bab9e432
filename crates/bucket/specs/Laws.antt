-- The laws of what a change leaves in buckets, under a key rule R, as contracts cite them. A change c is of the key key_of c.
use Rattle.std.specs.Prelude.{◌≡◌, ℕ, suc, ◌+◌, ◌<◌, ◌≤◌, true, ◌⊎◌, List, ◌++◌, length, Some, None, sum_by, ◌≢◌}
use Rattle.std.specs.List.{AllByRecursion}
use Rattle.keys.specs.Rule.{Rule}
use Rattle.tree.specs.Prefix.{pre, sib}
use Rattle.tree.specs.Maps.{Rec, size, Sound, Change, key_of, added, new_of, made}
use Rattle.tree.specs.Loads.{hashed, loads}
use Rattle.tree.specs.Trees.{room, deepest, Falls}
use Rattle.tree.specs.Images.{Begun, SplitEntry}
use Rattle.pages.specs.declared.root.Root.{Root}
use Rattle.pages.specs.Records.{Fine}
use Rattle.pages.specs.Laws.{Fits}
use Rattle.bucket.specs.Sifts.{LacksKey, HasKey, sift, sifted, own_load, FirstRoom}

-- the hash of the key of a change
abbrev pub hash_of : Rule → Change → ℕ
hash_of R c = R.hash (key_of c)

-- before a change of the map m: its key is valid, and rs are the records of m that begin with the first l bits of its hash
pub record Before (R : Rule) (c : Change) (m : List Rec) (l : ℕ) (rs : List Rec) : Type 0 where
  pub valid : R.valid (key_of c) ≡ true
  pub map : Sound R m
  pub own : Sound R rs
  pub begun : Begun (hashed R) m l (pre 32 (hash_of R c) l) rs

-- behind the entry that the hash of a valid key leads to stands the bucket from which a change of it begins
abbrev pub OwnFound : Rule → Type 0
OwnFound R = (c : Change) (x : Root) (E d : ℕ → ℕ) (recs : ℕ → List Rec) (m : List Rec) → R.valid (key_of c) ≡ true → x.depth ≤ 32 → Fits R x E d recs m
    → Before R c m (d (pre 32 (hash_of R c) x.depth)) (recs (pre 32 (hash_of R c) x.depth))

-- ---- the bucket of the hash has l bits before the change, and n bits are as many or more

-- a sibling on the way: another n bits that begin with the l bits have the records that the change leaves there
abbrev pub SiblingLeft : Rule → Type 0
SiblingLeft R = (c : Change) (m rs : List Rec) (l n p : ℕ) → Before R c m l rs → l ≤ n → n ≤ 32 → pre n p l ≡ pre 32 (hash_of R c) l → (p ≢ pre 32 (hash_of R c) n)
    → Begun (hashed R) (made R c m) n p (sift R (key_of c) n p rs) × (loads R (made R c m) n p ≡ sifted R (key_of c) n p rs)

-- the key's own bucket: the records that the change leaves there, and those that it brings
abbrev pub OwnLeft : Rule → Type 0
OwnLeft R = (c : Change) (m rs : List Rec) (l n : ℕ) → Before R c m l rs → l ≤ n → n ≤ 32
    → Begun (hashed R) (made R c m) n (pre 32 (hash_of R c) n) (sift R (key_of c) n (pre 32 (hash_of R c) n) rs ++ new_of c)
    × (loads R (made R c m) n (pre 32 (hash_of R c) n) ≡ own_load R (key_of c) (hash_of R c) (added c) rs n)

-- what is left is a map, and so it is with what the change brings
abbrev pub StillApart : Rule → Type 0
StillApart R = (c : Change) (m rs : List Rec) (l n p : ℕ) → Before R c m l rs → Sound R (sift R (key_of c) n p rs) × Sound R (sift R (key_of c) n p rs ++ new_of c)

-- the records of both may stand in a page, where those before and those that the change brings may
abbrev pub StillFine : Rule → Type 0
StillFine R = (c : Change) (rs : List Rec) (n p : ℕ) → AllByRecursion (Fine R.valid) rs
    → AllByRecursion (Fine R.valid) (sift R (key_of c) n p rs) × (AllByRecursion (Fine R.valid) (new_of c) → AllByRecursion (Fine R.valid) (sift R (key_of c) n p rs ++ new_of c))

-- entry i of a directory of w bits, after the bucket of a change was split so: it does not begin with that bucket and is as it was;
-- or it leaves the path of the hash behind j bits, and leads to what is left in the sibling there; or it leads to the key's own bucket
abbrev pub SiftedEntry : Rule → Change → List Rec → ℕ → ℕ → ℕ → (ℕ → ℕ) → (ℕ → ℕ) → (ℕ → List Rec) → (ℕ → List Rec) → ℕ → Type 0
SiftedEntry R c rs l n w d d' recs recs' i =
    ((pre w i l ≢ pre 32 (hash_of R c) l) × (d i ≡ d' i) × (recs i ≡ recs' i))
    ⊎ ((j : ℕ) × (l ≤ j) × (j < n) × (pre w i j ≡ pre 32 (hash_of R c) j) × (pre w i (suc j) ≢ pre 32 (hash_of R c) (suc j)) × (suc j ≡ d' i)
    × (recs' i ≡ sift R (key_of c) (suc j) (sib (pre 32 (hash_of R c) (suc j))) rs))
    ⊎ ((pre w i n ≡ pre 32 (hash_of R c) n) × (n ≡ d' i) × (recs' i ≡ sift R (key_of c) n (pre 32 (hash_of R c) n) rs ++ new_of c))

-- entries so split are split as the tree's are
abbrev pub EntrySplit : Rule → Type 0
EntrySplit R = (c : Change) (m rs : List Rec) (l n w : ℕ) (d d' : ℕ → ℕ) (recs recs' : ℕ → List Rec) (i : ℕ) → Before R c m l rs → l ≤ n → n ≤ w → w ≤ 32
    → SiftedEntry R c rs l n w d d' recs recs' i → SplitEntry (hashed R) (hash_of R c) l n (made R c m) w d d' recs recs' i

-- the first number of bits, past l, under which the key's own bucket has room is the one that its hash begins with after the change; where there is none, eight bits have no room
abbrev pub TargetFalls : Rule → Type 0
TargetFalls R = (c : Change) (m rs : List Rec) (l : ℕ) → Before R c m l rs
    → ((n : ℕ) → l < n → FirstRoom (own_load R (key_of c) (hash_of R c) (added c) rs) l (Some n) → Falls (loads R (made R c m)) 32 (hash_of R c) n)
    × (l ≤ deepest → FirstRoom (own_load R (key_of c) (hash_of R c) (added c) rs) l None → room < loads R (made R c m) deepest (pre 32 (hash_of R c) deepest))

-- ---- the number of records

-- a key is absent from the map if and only if it is absent from its own bucket
abbrev pub AbsentThere : Rule → Type 0
AbsentThere R = (c : Change) (m rs : List Rec) (l : ℕ) → Before R c m l rs → (LacksKey R (key_of c) rs → LacksKey R (key_of c) m) × (LacksKey R (key_of c) m → LacksKey R (key_of c) rs)

-- a change adds the record that it brings, and takes away the one whose key is the same, if there is one in the bucket
abbrev pub CountedThere : Rule → Type 0
CountedThere R = (c : Change) (m rs : List Rec) (l : ℕ) → Before R c m l rs
    → (LacksKey R (key_of c) rs → length (made R c m) ≡ length m + length (new_of c))
    × (HasKey R (key_of c) rs → length (made R c m) + 1 ≡ length m + length (new_of c))

-- ---- two siblings in one

-- a bucket that the hash does not begin with is as it was
abbrev pub BesideKept : Rule → Type 0
BesideKept R = (c : Change) (m ys : List Rec) (n q : ℕ) → R.valid (key_of c) ≡ true → Sound R m → (q ≢ pre 32 (hash_of R c) n) → Begun (hashed R) m n q ys → Begun (hashed R) (made R c m) n q ys

-- the records of two siblings are those of the prefix that is one bit shorter, and no two keys of them are the same
abbrev pub SiblingsJoined : Rule → Type 0
SiblingsJoined R = (m xs ys : List Rec) (h n : ℕ) → n < 32 → Begun (hashed R) m (suc n) (pre 32 h (suc n)) xs → Begun (hashed R) m (suc n) (sib (pre 32 h (suc n))) ys
    → Begun (hashed R) m n (pre 32 h n) (xs ++ ys) × (Sound R xs → Sound R ys → Sound R (xs ++ ys))

-- so are those of the key's own bucket after a change, and those of its sibling before it; and their bytes together are the load of that prefix
abbrev pub MergedUp : Rule → Type 0
MergedUp R = (c : Change) (m xs ys : List Rec) (n : ℕ) → R.valid (key_of c) ≡ true → Sound R m → Sound R xs → Sound R ys → n < 32
    → Begun (hashed R) (made R c m) (suc n) (pre 32 (hash_of R c) (suc n)) xs → Begun (hashed R) m (suc n) (sib (pre 32 (hash_of R c) (suc n))) ys
    → Begun (hashed R) (made R c m) n (pre 32 (hash_of R c) n) (xs ++ ys) × Sound R (xs ++ ys) × (loads R (made R c m) n (pre 32 (hash_of R c) n) ≡ sum_by size xs + sum_by size ys)
