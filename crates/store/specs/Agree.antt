-- How a store agrees with a book.
use Rattle.std.specs.Prelude.{◌≡◌, ℕ, ◌*◌, ◌<◌, ◌≤◌, true, false, ◌⊎◌, List, length, Some, None}
use Rattle.device.specs.Meaning.{State, Meaning, Grouped, SoundGroup, has}
use Rattle.keys.specs.Rule.{Rule}
use Rattle.tree.specs.Maps.{Rec}
use Rattle.pages.specs.Images.{root, WellFormed}
use Rattle.store.specs.declared.kinds.Phase.{Phase}
use Rattle.store.specs.declared.kinds.Phase.TheVariants.{Stopped, Idle, Open}
use Rattle.store.specs.declared.store.Store.{Store}
use Rattle.store.specs.Book.{Book}

-- the image e of n pages is well formed and holds the map m, in a store of at most so many buckets
pub record Keeps (R : Rule) (n limit : ℕ) (e : ℕ → State) (m : List Rec) : Type 0 where
  pub formed : WellFormed R n e m
  pub limits : (root e).limit ≡ limit

-- an image that may stand holds the known map, or the pending one
abbrev pub MayStand : Rule → ℕ → Book → (ℕ → State) → Type 0
MayStand R n b e = Keeps R n b.limit e b.known ⊎ ((m : List Rec) × (b.pending ≡ Some m) × Keeps R n b.limit e m)

-- the pages that wait are page 0, the directory's and, of buckets, at most nine for each change
abbrev pub FewWait : Meaning → ℕ → Type 0
FewWait m changes = (ps : List ℕ) × (length ps ≤ 9 * changes) × ((i : ℕ) → has i m.waits ≡ true → (i < 5) ⊎ (has i ps ≡ true))

-- the device runs, its base holds the known map, what it shows holds m, no map is pending, and few pages wait
pub record Running (R : Rule) (b : Book) (m : List Rec) (changes : ℕ) (n : Meaning) (g : Grouped) : Type 0 where
  pub runs : n.runs ≡ true
  pub base : Keeps R n.count b.limit g.base b.known
  pub shown : Keeps R n.count b.limit n.shown m
  pub settled : b.pending ≡ None
  pub few : FewWait n changes

-- what each phase says of the device
abbrev pub InPhase : Rule → Phase → Book → Meaning → Grouped → Type 0
InPhase R Stopped b m g = m.runs ≡ false
InPhase R Idle b m g = Running R b b.known 0 m g
InPhase R Open b m g = Running R b b.working b.changes m g

-- a store with this phase, counter and count of changes, over a device of this meaning, agrees with the book b; A is that the device agrees with what stands below it
pub record Agrees (R : Rule) (b : Book) (phase : Phase) (counter changes : ℕ) (A : Type 0) (m : Meaning) (g : Grouped) : Type 0 where
  pub below : A
  pub group : SoundGroup m g
  pub pages : 6 ≤ m.count
  pub phases : phase ≡ b.phase
  pub counters : counter ≡ b.counter
  pub counted : changes ≡ b.changes
  pub ends : (e : ℕ → State) → g.ends e → MayStand R m.count b e
  pub state : InPhase R b.phase b m g

-- a store over a device known by its ghost members agrees with the book b
abbrev pub Faithful : {D K : Type 0} → Rule → (D → Type 0) → (D → Meaning) → (D → Grouped) → Store D K → Book → Type 0
Faithful R agrees meaning grouped s b = Agrees R b s.phase s.counter s.changes (agrees s.device) (meaning s.device) (grouped s.device)

-- no format or recover was accepted yet, or the last format was answered 11: the store has no book
pub record Unopened {D K : Type 0} (agrees : D → Type 0) (s : Store D K) : Type 0 where
  pub below : agrees s.device
  pub stops : s.phase ≡ Stopped
