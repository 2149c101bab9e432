-- The laws of maps, loads and buckets under a key rule R, as contracts cite them.
use Rattle.std.specs.Prelude.{◌≡◌, ℕ, suc, ◌+◌, ◌-◌, ◌*◌, ◌^◌, ◌<◌, ◌≤◌, true, false, ◌⊎◌, List, length, sum_by, ◌≢◌}
use Rattle.keys.specs.Rule.{Rule}
use Rattle.tree.specs.Members.{In, Once, Same}
use Rattle.tree.specs.Maps.{Rec, size, Sound, without, put, held, Change, key_of, added, made}
use Rattle.tree.specs.Prefix.{pre, sib}
use Rattle.tree.specs.Loads.{hashed, loads, Splits}
use Rattle.tree.specs.Trees.{room, deepest, Bucket, Falls, buckets, number, depth, Roomy, SplitDown}
use Rattle.tree.specs.Images.{Parts, Tested, Pages, image_map, BytesTested, Begun, Holds, SplitEntry, MergedEntry}

-- ---- loads

-- a prefix's load splits into those of its two halves
abbrev pub LoadsSplit : Rule → Type 0
LoadsSplit R = (m : List Rec) → Splits (loads R m)

-- and falls along a prefix: a longer one has at most the load of a shorter one that it begins with
abbrev pub LoadsFall : Rule → Type 0
LoadsFall R = (m : List Rec) (n p k : ℕ) → k ≤ n → n ≤ 32 → loads R m n p ≤ loads R m k (pre n p k)

-- ---- buckets

-- where no eight bits exceed 248, the buckets partition the hashes: every hash begins with one, and with no other
abbrev pub OneBucket : Rule → Type 0
OneBucket R = (m : List Rec) → Roomy (loads R m) → (h : ℕ) → h < 2 ^ 32
    → (n : ℕ) × (n ≤ deepest) × Bucket (loads R m) n (pre 32 h n) × ((k : ℕ) → k ≤ 32 → Bucket (loads R m) k (pre 32 h k) → k ≡ n)

-- every entry of the directory begins with one bucket, and with no other
abbrev pub EntryNamed : Rule → Type 0
EntryNamed R = (m : List Rec) → Roomy (loads R m) → (i : ℕ) → i < 2 ^ depth (loads R m)
    → (n : ℕ) × (n ≤ depth (loads R m)) × Falls (loads R m) (depth (loads R m)) i n × ((k : ℕ) → Falls (loads R m) (depth (loads R m)) i k → k ≡ n)

-- the list of buckets has every bucket of at most eight bits, nothing else, and nothing twice
abbrev pub AllListed : Rule → Type 0
AllListed R = (m : List Rec)
    → ((n p : ℕ) → n ≤ deepest → p < 2 ^ n → Bucket (loads R m) n p → In (n, p) (buckets (loads R m)))
    × ((b : ℕ × ℕ) → In b (buckets (loads R m)) → (b.0 ≤ deepest) × (b.1 < 2 ^ b.0) × Bucket (loads R m) b.0 b.1)
    × Once (buckets (loads R m))

-- equal maps have equal buckets, whatever the order of the records
abbrev pub EqualMaps : Rule → Type 0
EqualMaps R = (m m' : List Rec) → Sound R m → Sound R m' → Same m m' → buckets (loads R m) ≡ buckets (loads R m')

-- ---- one change

-- a map stays one
abbrev pub StillMap : Rule → Type 0
StillMap R = (c : Change) (m : List Rec) → R.valid (key_of c) ≡ true → Sound R m → Sound R (made R c m)

-- no load changes but those of the prefixes of the key's hash
abbrev pub OnlyAlong : Rule → Type 0
OnlyAlong R = (c : Change) (m : List Rec) → R.valid (key_of c) ≡ true → Sound R m → (n p : ℕ) → (p ≢ pre 32 (R.hash (key_of c)) n) → loads R (made R c m) n p ≡ loads R m n p

-- and these all change by one amount: the bytes that come for those that go
abbrev pub AllAlong : Rule → Type 0
AllAlong R = (c : Change) (m : List Rec) → R.valid (key_of c) ≡ true → Sound R m → (n : ℕ)
    → loads R (made R c m) n (pre 32 (R.hash (key_of c)) n) + held R (key_of c) m ≡ loads R m n (pre 32 (R.hash (key_of c)) n) + added c

-- so one test says whether there is room: that of the first eight bits of the key's hash
abbrev pub RoomTested : Rule → Type 0
RoomTested R = (c : Change) (m : List Rec) → R.valid (key_of c) ≡ true → Sound R m → Roomy (loads R m)
    → loads R (made R c m) deepest (pre 32 (R.hash (key_of c)) deepest) ≤ room → Roomy (loads R (made R c m))

-- a put that replaces no longer record splits the bucket of its hash
abbrev pub PutSplits : Rule → Type 0
PutSplits R = (r : Rec) (m : List Rec) → R.valid r.key ≡ true → Sound R m → Roomy (loads R (put R r m)) → held R r.key m ≤ size r
    → (l n : ℕ) × SplitDown (R.hash r.key) l n (loads R m) (loads R (put R r m))

-- one that replaces a longer record does the reverse: its buckets, split, would be those before
abbrev pub PutMerges : Rule → Type 0
PutMerges R = (r : Rec) (m : List Rec) → R.valid r.key ≡ true → Sound R m → Roomy (loads R m) → size r ≤ held R r.key m
    → (n l : ℕ) × SplitDown (R.hash r.key) n l (loads R (put R r m)) (loads R m)

-- and so does a delete
abbrev pub DeleteMerges : Rule → Type 0
DeleteMerges R = (k : List ℕ) (m : List Rec) → R.valid k ≡ true → Sound R m → Roomy (loads R m)
    → (n l : ℕ) × SplitDown (R.hash k) n l (loads R (without R k m)) (loads R m)

-- the number of buckets moves by at most eight
abbrev pub EightAtMost : Rule → Type 0
EightAtMost R = (c : Change) (m : List Rec) → R.valid (key_of c) ≡ true → Sound R m → Roomy (loads R m) → Roomy (loads R (made R c m))
    → (number (loads R (made R c m)) ≤ number (loads R m) + deepest) × (number (loads R m) ≤ number (loads R (made R c m)) + deepest)

-- ---- two changes

-- to keys that are not the same: in either order they leave the same records and as many buckets
abbrev pub EitherOrder : Rule → Type 0
EitherOrder R = (c d : Change) (m : List Rec) → Sound R m → R.valid (key_of c) ≡ true → R.valid (key_of d) ≡ true → R.same (key_of c) (key_of d) ≡ false
    → Same (made R c (made R d m)) (made R d (made R c m)) × (number (loads R (made R c (made R d m))) ≡ number (loads R (made R d (made R c m))))

-- to one key: the later alone counts
abbrev pub LaterAlone : Rule → Type 0
LaterAlone R = (c d : Change) (m : List Rec) → Sound R m → R.valid (key_of c) ≡ true → R.valid (key_of d) ≡ true → R.same (key_of d) (key_of c) ≡ true
    → Same (made R d (made R c m)) (made R d m)

-- ---- directories

-- a directory has the tree's buckets if and only if each fits and no two siblings would fit together
abbrev pub SiblingTest : Rule → Type 0
SiblingTest R = (m : List Rec) (w : ℕ) (d : ℕ → ℕ) → w ≤ 32 → Parts w d
    → (Tested (loads R m) w d → (i : ℕ) → i < 2 ^ w → Falls (loads R m) w i (d i)) × (((i : ℕ) → i < 2 ^ w → Falls (loads R m) w i (d i)) → Tested (loads R m) w d)

-- pages that are right of themselves are the tree's buckets if and only if their bytes pass that test, and then they hold their map
abbrev pub RecoverTest : Rule → Type 0
RecoverTest R = (w : ℕ) (d : ℕ → ℕ) (recs : ℕ → List Rec) → w ≤ 32 → Pages (hashed R) w d recs
    → (BytesTested size w d recs → Holds (hashed R) size (image_map w d recs) w d recs)
    × (((i : ℕ) → i < 2 ^ w → Falls (loads R (image_map w d recs)) w i (d i)) → BytesTested size w d recs)

-- the lengths of a directory that holds a map part its entries
abbrev pub Parted : Rule → Type 0
Parted R = (m : List Rec) (w : ℕ) (d : ℕ → ℕ) (recs : ℕ → List Rec) → Holds (hashed R) size m w d recs → Parts w d

-- its width is the depth if and only if it has one entry, or some page has all its bits
abbrev pub DepthTold : Rule → Type 0
DepthTold R = (m : List Rec) (w : ℕ) (d : ℕ → ℕ) (recs : ℕ → List Rec) → w ≤ deepest → Holds (hashed R) size m w d recs
    → ((w ≡ 0) ⊎ ((i : ℕ) × (i < 2 ^ w) × (d i ≡ w)) → depth (loads R m) ≡ w) × (depth (loads R m) ≡ w → (w ≡ 0) ⊎ ((i : ℕ) × (i < 2 ^ w) × (d i ≡ w)))

-- a record is in the map if and only if it is in the page that its hash leads to
abbrev pub FoundByHash : Rule → Type 0
FoundByHash R = (m : List Rec) (w : ℕ) (d : ℕ → ℕ) (recs : ℕ → List Rec) → Holds (hashed R) size m w d recs → w ≤ 32 → (r : Rec)
    → (In r m → In r (recs (pre 32 (hashed R r) w))) × (In r (recs (pre 32 (hashed R r) w)) → In r m)

-- a wider directory, whose entries lead where their first w bits led, holds the same map
abbrev pub Widened : Rule → Type 0
Widened R = (m : List Rec) (w v : ℕ) (d : ℕ → ℕ) (recs : ℕ → List Rec) → w ≤ v → Holds (hashed R) size m w d recs → Holds (hashed R) size m v (λ i. d (pre v i w)) (λ i. recs (pre v i w))

-- and so does a narrower one, where no page has more bits than its entries
abbrev pub Narrowed : Rule → Type 0
Narrowed R = (m : List Rec) (w v : ℕ) (d : ℕ → ℕ) (recs : ℕ → List Rec) → w ≤ v → Holds (hashed R) size m v d recs → ((i : ℕ) → i < 2 ^ v → d i ≤ w)
    → Holds (hashed R) size m w (λ i. d (i * 2 ^ (v - w))) (λ i. recs (i * 2 ^ (v - w)))

-- ---- the steps of a change, of which the bucket has l bits before and n bits after

-- entries that are split so hold the changed map
abbrev pub SplitHolds : Rule → Type 0
SplitHolds R = (c : Change) (m : List Rec) → R.valid (key_of c) ≡ true → Sound R m → (w : ℕ) (d d' : ℕ → ℕ) (recs recs' : ℕ → List Rec) → w ≤ 32 → Holds (hashed R) size m w d recs
    → (l n : ℕ) → l ≤ n → n ≤ w → Falls (loads R m) 32 (R.hash (key_of c)) l → Falls (loads R (made R c m)) 32 (R.hash (key_of c)) n
    → ((i : ℕ) → i < 2 ^ w → SplitEntry (hashed R) (R.hash (key_of c)) l n (made R c m) w d d' recs recs' i) → Holds (hashed R) size (made R c m) w d' recs'

-- entries that are merged so hold the changed map
abbrev pub MergeHolds : Rule → Type 0
MergeHolds R = (c : Change) (m : List Rec) → R.valid (key_of c) ≡ true → Sound R m → (w : ℕ) (d d' : ℕ → ℕ) (recs recs' : ℕ → List Rec) → w ≤ 32 → Holds (hashed R) size m w d recs
    → (l n : ℕ) → n ≤ l → n ≤ w → Falls (loads R m) 32 (R.hash (key_of c)) l → Falls (loads R (made R c m)) 32 (R.hash (key_of c)) n
    → ((i : ℕ) → i < 2 ^ w → MergedEntry (hashed R) (R.hash (key_of c)) n (made R c m) w d d' recs recs' i) → Holds (hashed R) size (made R c m) w d' recs'

-- a bucket's records tell its load and all loads below it
abbrev pub BucketTells : Rule → Type 0
BucketTells R = (m xs : List Rec) (n p : ℕ) → Sound R m → Sound R xs → n ≤ 32 → Begun (hashed R) m n p xs
    → (loads R m n p ≡ sum_by size xs) × ((k q : ℕ) → n ≤ k → k ≤ 32 → pre k q n ≡ p → loads R xs k q ≡ loads R m k q)

-- the bucket of a hash is told by its own load and by that of one bit less
abbrev pub StopsThere : Rule → Type 0
StopsThere R = (m : List Rec) (h : ℕ)
    → (loads R m 0 (pre 32 h 0) ≤ room → Falls (loads R m) 32 h 0)
    × ((n : ℕ) → n < 32 → loads R m (suc n) (pre 32 h (suc n)) ≤ room → room < loads R m n (pre 32 h n) → Falls (loads R m) 32 h (suc n))

-- one bit up from the bucket of a changed key: its load is that bucket's and that of an entry i beside it before the change; where that entry's bucket is longer, it exceeds 248
abbrev pub OneBitUp : Rule → Type 0
OneBitUp R = (c : Change) (m : List Rec) → R.valid (key_of c) ≡ true → Sound R m → (w i n : ℕ) → n < w → w ≤ 32 → pre w i (suc n) ≡ sib (pre 32 (R.hash (key_of c)) (suc n))
    → (loads R (made R c m) n (pre 32 (R.hash (key_of c)) n) ≡ loads R (made R c m) (suc n) (pre 32 (R.hash (key_of c)) (suc n)) + loads R m (suc n) (pre w i (suc n)))
    × ((d : ℕ) → suc n < d → Falls (loads R m) w i d → room < loads R (made R c m) n (pre 32 (R.hash (key_of c)) n))

-- of b numbers, fewer than b that are taken leave one free
abbrev pub OneFree : Type 0
OneFree = (b : ℕ) (taken : List ℕ) → length taken < b → (k : ℕ) × (k < b) × (In k taken → ⊥)
