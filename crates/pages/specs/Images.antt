-- Images of a store, and when they are well formed under a key rule R in a device of n pages. An image is what each page shows; W1 to W6 are the conditions, in the order in which they are tested.
use Rattle.std.specs.Prelude.{◌≡◌, ℕ, ◌+◌, ◌*◌, ◌/◌, ◌%◌, ◌^◌, ◌<◌, ◌≤◌, List, [], length, slice_index}
use Rattle.std.specs.List.{AllByRecursion}
use Rattle.device.specs.Meaning.{State, bytes, spoiled}
use Rattle.keys.specs.Rule.{Rule}
use Rattle.tree.specs.Prefix.{pre}
use Rattle.tree.specs.Trees.{Falls, number, depth}
use Rattle.tree.specs.Members.{Same}
use Rattle.tree.specs.Maps.{Rec, Apart, Sound}
use Rattle.tree.specs.Loads.{hashed, loads}
use Rattle.tree.specs.Images.{image_map}
use Rattle.pages.specs.declared.root.Root.{Root}
use Rattle.pages.specs.declared.root.Condition.{Condition}
use Rattle.pages.specs.declared.root.Condition.TheVariants.{RootPage, DirectoryPages, UsedEntries, BucketPages, Placement, Tree}
use Rattle.layout.specs.Envelope.{envelope}
use Rattle.pages.specs.Bytes.{root_body, entry_at, Directory}
use Rattle.pages.specs.Records.{BucketIs, Fine}

-- what a page shows; a spoiled page shows no bytes, and so is by no layout
abbrev pub shows : State → List ℕ
shows (bytes bs) = bs
shows spoiled = []

-- the numbers of a page 0, where its layout has them
abbrev pub root_in : List ℕ → Root
root_in p =
    record {
      kind = slice_index p 3;
      depth = slice_index p 4;
      limit = slice_index p 5 * 256 + slice_index p 6;
      used = slice_index p 7 * 256 + slice_index p 8;
      records = slice_index p 9 * 16777216 + slice_index p 10 * 65536 + slice_index p 11 * 256 + slice_index p 12;
    }

-- the numbers of page 0 of an image
abbrev pub root : (ℕ → State) → Root
root e = root_in (shows (e 0))

-- the directory's entry i
abbrev pub entry : (ℕ → State) → ℕ → ℕ
entry e i = entry_at (shows (e (1 + i / 64))) (i % 64)

-- the page that entry i names
abbrev pub named : (ℕ → State) → ℕ → List ℕ
named e i = shows (e (entry e i))

-- how many entries are used
abbrev pub wide : (ℕ → State) → ℕ
wide e = 2 ^ (root e).depth

-- W1: page 0 is by layout, kind is the rule's, depth at most 8, and the most buckets are from 1 to the smaller of count - 5 and 256
pub record W1 (R : Rule) (count : ℕ) (e : ℕ → State) : Type 0 where
  pub layout : shows (e 0) ≡ envelope (root_body (root e))
  pub kind : (root e).kind ≡ R.kind
  pub deep : (root e).depth ≤ 8
  pub least : 1 ≤ (root e).limit
  pub most : (root e).limit ≤ 256
  pub room : (root e).limit + 5 ≤ count

-- W2: pages 1 to 4 are by layout, and unused entries are 0
pub record W2 (e : ℕ → State) : Type 0 where
  pub layout : (j : ℕ) → j < 4 → Directory (shows (e (1 + j)))
  pub unused : (i : ℕ) → wide e ≤ i → i < 256 → entry e i ≡ 0

-- W3: used entries lie from 5 to 4 more than the most buckets
abbrev pub W3 : (ℕ → State) → Type 0
W3 e = (i : ℕ) → i < wide e → (5 ≤ entry e i) × (entry e i ≤ 4 + (root e).limit)

-- W4: pages named are buckets by layout, and their records may stand in a page
abbrev pub W4 : Rule → (ℕ → State) → Type 0
W4 R e = (i : ℕ) → i < wide e → (d : ℕ) × (rs : List Rec) × BucketIs (named e i) d rs × AllByRecursion (Fine R.valid) rs

-- a bucket of local depth d with the records rs stands rightly behind entry i: the entries that name its page are all those that begin with entry i's first d bits, so do its records' hashes,
-- and no two of its keys are the same
pub record Placed (R : Rule) (e : ℕ → State) (i d : ℕ) (rs : List Rec) : Type 0 where
  pub short : d ≤ (root e).depth
  pub only : (j : ℕ) → j < wide e → entry e j ≡ entry e i → pre (root e).depth j d ≡ pre (root e).depth i d
  pub every : (j : ℕ) → j < wide e → pre (root e).depth j d ≡ pre (root e).depth i d → entry e j ≡ entry e i
  pub hashes : AllByRecursion (λ x. pre 32 (hashed R x) d ≡ pre (root e).depth i d) rs
  pub apart : Apart R rs

-- W5: each bucket stands rightly behind the entries that name it
abbrev pub W5 : Rule → (ℕ → State) → Type 0
W5 R e = (i d : ℕ) (rs : List Rec) → i < wide e → BucketIs (named e i) d rs → Placed R e i d rs

-- entry i leads to a bucket of local depth d i with the records recs i
abbrev pub ReadAs : (ℕ → State) → (ℕ → ℕ) → (ℕ → List Rec) → Type 0
ReadAs e d recs = (i : ℕ) → i < wide e → BucketIs (named e i) (d i) (recs i)

-- the records of an image so read
abbrev pub map_of : (ℕ → State) → (ℕ → ℕ) → (ℕ → List Rec) → List Rec
map_of e d recs = image_map (root e).depth d recs

-- the buckets are those of the tree of these records, and the numbers of page 0 are right
pub record Right (R : Rule) (e : ℕ → State) (d : ℕ → ℕ) (recs : ℕ → List Rec) : Type 0 where
  pub falls : (i : ℕ) → i < wide e → Falls (loads R (map_of e d recs)) (root e).depth i (d i)
  pub depth : (root e).depth ≡ depth (loads R (map_of e d recs))
  pub used : (root e).used ≡ number (loads R (map_of e d recs))
  pub records : (root e).records ≡ length (map_of e d recs)

-- W6: however the pages are read
abbrev pub W6 : Rule → (ℕ → State) → Type 0
W6 R e = (d : ℕ → ℕ) (recs : ℕ → List Rec) → ReadAs e d recs → Right R e d recs

-- the image meets a condition
abbrev pub Meets : Rule → ℕ → (ℕ → State) → Condition → Type 0
Meets R n e RootPage = W1 R n e
Meets R n e DirectoryPages = W2 e
Meets R n e UsedEntries = W3 e
Meets R n e BucketPages = W4 R e
Meets R n e Placement = W5 R e
Meets R n e Tree = W6 R e

-- the number by which a condition is known
abbrev pub number_of : Condition → ℕ
number_of RootPage = 1
number_of DirectoryPages = 2
number_of UsedEntries = 3
number_of BucketPages = 4
number_of Placement = 5
number_of Tree = 6

-- it meets all six
pub record AllMet (R : Rule) (n : ℕ) (e : ℕ → State) : Type 0 where
  pub first : W1 R n e
  pub second : W2 e
  pub third : W3 e
  pub fourth : W4 R e
  pub fifth : W5 R e
  pub sixth : W6 R e

-- c is the lowest condition that is broken
abbrev pub Lowest : Rule → ℕ → (ℕ → State) → Condition → Type 0
Lowest R n e c = ((b : Condition) → number_of b < number_of c → Meets R n e b) × (Meets R n e c → ⊥)

-- the image is well formed, and holds the map m
pub record WellFormed (R : Rule) (n : ℕ) (e : ℕ → State) (m : List Rec) : Type 0 where
  pub met : AllMet R n e
  pub map : Sound R m
  pub holds : (d : ℕ → ℕ) (recs : ℕ → List Rec) → ReadAs e d recs → Same m (map_of e d recs)
