-- What a change is to write, and when that is right.
use Rattle.std.specs.Prelude.{◌≡◌, true, List, ◌⊎◌, ℕ, suc, ◌*◌, ◌-◌, ◌^◌, ◌<◌, ◌≤◌, length}
use Rattle.device.specs.Meaning.{State, Meaning, Grouped, has}
use Rattle.keys.specs.Rule.{Rule}
use Rattle.tree.specs.Prefix.{pre, sib}
use Rattle.tree.specs.Maps.{Rec, Change, key_of, made}
use Rattle.pages.specs.Images.{shows, root, WellFormed}
use Rattle.pages.specs.Laws.{Numbers, Fits}
use Rattle.pages.specs.Records.{BucketIs}
use Rattle.pages.specs.Surveys.{at}
use Rattle.access.specs.Moves.{Moved}
use Rattle.bucket.specs.Sifts.{sift}
use Rattle.writing.specs.declared.plan.Plan.{Plan}

-- the first entry, of w bits, that begins with the sibling of the first k bits of h
abbrev pub sib_at : ℕ → ℕ → ℕ → ℕ
sib_at w h k = sib (pre 32 h k) * 2 ^ (w - k)

-- the page that a plan has for the sibling of the first k bits of its hash
abbrev pub sib_page : Plan → ℕ → ℕ
sib_page p k = at p.entries (sib_at p.root.depth p.hash k)

-- the pages that a plan writes: page 0, the directory, the old page of the bucket, and those of the siblings from its bits before to its bits after the change
abbrev pub Writes : Plan → ℕ → Type 0
Writes p q = (q < 5) ⊎ (q ≡ p.home) ⊎ ((j : ℕ) × (p.from ≤ j) × (j < p.to) × (q ≡ sib_page p (suc j)))

-- entry i of a plan over the image e, when it leads to a bucket of local depth d with the records xs: to a page that is not written and has them already; to the sibling behind j bits, which is to
-- have what the change leaves there; or to the bucket of the hash itself
abbrev pub Leads : Rule → Change → (ℕ → State) → Plan → List Rec → ℕ → ℕ → List Rec → Type 0
Leads R c e p rs i d xs =
    ((Writes p (at p.entries i) → ⊥) × BucketIs (shows (e (at p.entries i))) d xs)
    ⊎ ((j : ℕ) × (p.from ≤ j) × (j < p.to) × (at p.entries i ≡ sib_page p (suc j)) × (d ≡ suc j) × (xs ≡ sift R (key_of c) (suc j) (sib (pre 32 p.hash (suc j))) rs))
    ⊎ ((at p.entries i ≡ p.home) × BucketIs p.own d xs)

-- over the image e of n pages, a plan makes the change c of the map m: rs are the records of the bucket that the key's hash begins with
pub record Planned (R : Rule) (c : Change) (m : List Rec) (n : ℕ) (e : ℕ → State) (p : Plan) (rs : List Rec) : Type 0 where
  -- what the directory leads to then
  pub depths : ℕ → ℕ
  pub recs : ℕ → List Rec
  pub numbers : Numbers R n p.root (made R c m)
  pub fits : Fits R p.root (at p.entries) depths recs (made R c m)
  pub leads : (i : ℕ) → i < 2 ^ p.root.depth → Leads R c e p rs i (depths i) (recs i)
  -- the pages that are written may be buckets, and each is written once
  pub short : (p.to ≤ p.root.depth) ⊎ (p.to ≤ p.from)
  pub home : (5 ≤ p.home) × (p.home < n)
  pub siblings : (j : ℕ) → p.from ≤ j → j < p.to → (5 ≤ sib_page p (suc j)) × (sib_page p (suc j) < n) × (sib_page p (suc j) ≡ p.home → ⊥)
  pub apart : (i j : ℕ) → p.from ≤ i → i < p.to → p.from ≤ j → j < p.to → sib_page p (suc i) ≡ sib_page p (suc j) → i ≡ j
  pub bits : p.to ≤ 8

-- page q is page 0, one of the directory, or in the list
abbrev pub Among : List ℕ → ℕ → Type 0
Among ps q = (q < 5) ⊎ (has q ps ≡ true)

-- a plan was carried out, from the device d to e: at most nine pages of buckets were written, and what is shown is well formed and holds the changed map
pub record CarriedOut {D : Type 0} (R : Rule) (agrees : D → Type 0) (meaning : D → Meaning) (grouped : D → Grouped) (c : Change) (m : List Rec) (p : Plan) (d e : D) : Type 0 where
  pub buckets : List ℕ
  pub few : length buckets ≤ 9
  pub moved : Moved agrees meaning grouped 14 (Among buckets) d e
  pub formed : WellFormed R (meaning d).count (meaning e).shown (made R c m)
  pub rooted : root (meaning e).shown ≡ p.root
