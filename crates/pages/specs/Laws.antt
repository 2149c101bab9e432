-- The laws of images under a key rule R, as contracts cite them. An image e is that of a device of n pages.
use Rattle.std.specs.Prelude.{◌≡◌, ℕ, ◌+◌, ◌/◌, ◌%◌, ◌^◌, ◌<◌, ◌≤◌, List, [], length, ◌≢◌}
use Rattle.std.specs.List.{AllByRecursion}
use Rattle.device.specs.Meaning.{State, bytes, Alike}
use Rattle.keys.specs.Rule.{Rule}
use Rattle.tree.specs.Prefix.{pre}
use Rattle.tree.specs.Members.{Same}
use Rattle.tree.specs.Maps.{Rec, size, Apart, Sound}
use Rattle.tree.specs.Loads.{hashed, loads}
use Rattle.tree.specs.Trees.{number, depth}
use Rattle.tree.specs.Images.{Holds}
use Rattle.pages.specs.declared.root.Root.{Root}
use Rattle.layout.specs.Envelope.{envelope}
use Rattle.pages.specs.Bytes.{root_body, Directory, EntrySet}
use Rattle.pages.specs.Records.{BucketIs, Fine}
use Rattle.pages.specs.Images.{shows, root, entry, AllMet, WellFormed}
use Rattle.pages.specs.Formats.{Empty}

-- ---- the map of an image

-- an image that meets all six conditions holds a map
abbrev pub SomeHeld : Rule → Type 0
SomeHeld R = (n : ℕ) (e : ℕ → State) → AllMet R n e → (m : List Rec) × WellFormed R n e m

-- and one map alone
abbrev pub OneHeld : Rule → Type 0
OneHeld R = (n : ℕ) (e : ℕ → State) (m m' : List Rec) → WellFormed R n e m → WellFormed R n e m' → Same m m'

-- in whatever order its records are listed
abbrev pub AnyOrder : Rule → Type 0
AnyOrder R = (n : ℕ) (e : ℕ → State) (m m' : List Rec) → WellFormed R n e m → Sound R m' → Same m m' → WellFormed R n e m'

-- only the pages below the count matter
abbrev pub OnlyPages : Rule → Type 0
OnlyPages R = (n : ℕ) (e e' : ℕ → State) (m : List Rec) → Alike n e e' → WellFormed R n e m → WellFormed R n e' m

-- ---- what the pages say

-- page 0 has the numbers x, the directory has the entries E, and the page that a used entry i names is a bucket of local depth d i with the records recs i
pub record Says (e : ℕ → State) (x : Root) (E d : ℕ → ℕ) (recs : ℕ → List Rec) : Type 0 where
  pub zeroth : shows (e 0) ≡ envelope (root_body x)
  pub layout : (j : ℕ) → j < 4 → Directory (shows (e (1 + j)))
  pub entries : (i : ℕ) → i < 256 → entry e i ≡ E i
  pub buckets : (i : ℕ) → i < 2 ^ x.depth → BucketIs (shows (e (E i))) (d i) (recs i)

-- the numbers of page 0 are right for the map m in a device of n pages
pub record Numbers (R : Rule) (n : ℕ) (x : Root) (m : List Rec) : Type 0 where
  pub kind : x.kind ≡ R.kind
  pub deep : x.depth ≤ 8
  pub least : 1 ≤ x.limit
  pub most : x.limit ≤ 256
  pub room : x.limit + 5 ≤ n
  pub depth : x.depth ≡ depth (loads R m)
  pub used : x.used ≡ number (loads R m)
  pub records : x.records ≡ length m

-- entries and buckets are right for the map m: they hold it, two used entries name one page exactly if they begin with one bucket, and records may stand in a page
pub record Fits (R : Rule) (x : Root) (E d : ℕ → ℕ) (recs : ℕ → List Rec) (m : List Rec) : Type 0 where
  pub unused : (i : ℕ) → 2 ^ x.depth ≤ i → i < 256 → E i ≡ 0
  pub used : (i : ℕ) → i < 2 ^ x.depth → (5 ≤ E i) × (E i ≤ 4 + x.limit)
  pub only : (i j : ℕ) → i < 2 ^ x.depth → j < 2 ^ x.depth → E j ≡ E i → pre x.depth j (d i) ≡ pre x.depth i (d i)
  pub every : (i j : ℕ) → i < 2 ^ x.depth → j < 2 ^ x.depth → pre x.depth j (d i) ≡ pre x.depth i (d i) → E j ≡ E i
  pub fine : (i : ℕ) → i < 2 ^ x.depth → AllByRecursion (Fine R.valid) (recs i)
  pub apart : (i : ℕ) → i < 2 ^ x.depth → Apart R (recs i)
  pub map : Sound R m
  pub holds : Holds (hashed R) size m x.depth d recs

-- pages that say what is right make a well-formed image
abbrev pub FormedFrom : Rule → Type 0
FormedFrom R = (n : ℕ) (e : ℕ → State) (x : Root) (E d : ℕ → ℕ) (recs : ℕ → List Rec) (m : List Rec) → Says e x E d recs → Numbers R n x m → Fits R x E d recs m → WellFormed R n e m

-- and the pages of a well-formed image say what is right
abbrev pub FormedTo : Rule → Type 0
FormedTo R = (n : ℕ) (e : ℕ → State) (m : List Rec) → WellFormed R n e m
    → (d : ℕ → ℕ) × (recs : ℕ → List Rec) × Says e (root e) (entry e) d recs × Numbers R n (root e) m × Fits R (root e) (entry e) d recs m

-- the pages of an empty store are a well-formed image that holds the empty map
abbrev pub EmptyFormed : Rule → Type 0
EmptyFormed R = (n limit : ℕ) (e : ℕ → State) → 1 ≤ limit → limit ≤ 256 → limit + 5 ≤ n → Empty R.kind limit e → WellFormed R n e []

-- ---- one page written

-- from e to e' no page but p changes
abbrev pub Written : ℕ → ℕ → (ℕ → State) → (ℕ → State) → Type 0
Written n p e e' = (i : ℕ) → i < n → (i ≢ p) → e' i ≡ e i

-- what stands elsewhere is read as before
pub record Carried (n p : ℕ) (e e' : ℕ → State) : Type 0 where
  pub root : (p ≢ 0) → root e' ≡ root e
  pub entry : (i : ℕ) → i < 256 → (p ≢ 1 + i / 64) → entry e' i ≡ entry e i
  pub page : (q : ℕ) → q < n → (q ≢ p) → shows (e' q) ≡ shows (e q)

abbrev pub PageWritten : Type 0
PageWritten = (n p : ℕ) (e e' : ℕ → State) → 5 ≤ n → Written n p e e' → Carried n p e e'

-- entry k of the directory was set to v: no other entry changes
pub record Directed (e e' : ℕ → State) (k v : ℕ) : Type 0 where
  pub here : entry e' k ≡ v
  pub others : (i : ℕ) → i < 256 → (i ≢ k) → entry e' i ≡ entry e i
  pub layout : (j : ℕ) → j < 4 → Directory (shows (e (1 + j))) → Directory (shows (e' (1 + j)))

abbrev pub EntryWritten : Type 0
EntryWritten = (n k v : ℕ) (e e' : ℕ → State) (before after : List ℕ) → 5 ≤ n → k < 256 → Written n (1 + k / 64) e e'
    → e (1 + k / 64) ≡ bytes before → e' (1 + k / 64) ≡ bytes after → EntrySet before after (k % 64) v → Directed e e' k v
