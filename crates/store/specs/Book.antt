-- The book: the plain machine that a store is held to. It steps and answers by the rules, is told which calls were answered 11 and which map stood at each accepted recover, and sees no page.
use Rattle.std.specs.Prelude.{◌≡◌, ℕ, cond, ◌⊎◌, List, ◌++◌, length, drop, Some, None, Option, nat_lt}
use Rattle.keys.specs.Rule.{Rule}
use Rattle.tree.specs.Maps.{Rec}
use Rattle.tree.specs.Classes.{row_at}
use Rattle.access.specs.Seek.{seek, letter_in}
use Rattle.store.specs.declared.kinds.Phase.{Phase}
use Rattle.store.specs.declared.kinds.Phase.TheVariants.{Stopped, Idle, Open}
use Rattle.store.specs.Replies.{Event, get, recover, Reply, done, got, refused}

pub record Book : Type 0 where
  -- stopped, idle, or open: a transaction is going on
  pub phase : Phase
  -- the known map: the last that was committed
  pub known : List Rec
  -- the open map, and how many changes have led to it
  pub working : List Rec
  pub changes : ℕ
  -- how many transactions were begun
  pub counter : ℕ
  -- the most buckets
  pub limit : ℕ
  -- the pending map: that of a commit which was answered 11, and may yet stand
  pub pending : Option (List Rec)

-- the book's map: its open one, or the known one
abbrev pub map_at : Book → Phase → List Rec
map_at b Stopped = b.known
map_at b Idle = b.known
map_at b Open = b.working

-- what the book is told of a call: nothing, that it was answered 11, or which map stood
pub data Told : Type 0 where
  answered : Told
  lost : Told
  stood : List Rec → Told

-- the book after a call, its answer, and the caller's buffer
pub record Turned : Type 0 where
  pub book : Book
  pub reply : Reply
  pub buffer : List ℕ

-- no refusal but 11 changes the book
abbrev pub refuse : Book → ℕ → List ℕ → Turned
refuse b number buf = record { book = b; reply = refused number 0; buffer = buf }

-- the map m stands: it is known, and none is pending
abbrev pub recovered : Book → List Rec → Book
recovered b m = record { phase = Idle; known = m; working = b.working; changes = b.changes; counter = b.counter; limit = b.limit; pending = None }

-- power was lost: all is kept but the phase, and what is pending then
abbrev pub stopped : Book → Option (List Rec) → Book
stopped b p = record { phase = Stopped; known = b.known; working = b.working; changes = b.changes; counter = b.counter; limit = b.limit; pending = p }

-- a record is handed out: its value at the front of the buffer, no byte behind it changed
abbrev pub handed : Book → Option Rec → List ℕ → Turned
handed b None buf = refuse b 16 buf
handed b (Some x) buf = record { book = b; reply = got (letter_in (row_at x.class)) x.last (length x.value); buffer = x.value ++ drop (length x.value) buf }

abbrev pub gets : Rule → Book → List Rec → List ℕ → List ℕ → Turned
gets R b m k buf = cond (R.valid k) (cond (nat_lt (length buf) 120) (refuse b 5 buf) (handed b (seek R k m) buf)) (refuse b 3 buf)

-- a call on a book in each phase, when it was not answered 11; an accepted recover is told otherwise
abbrev pub ruled : Rule → Book → Phase → Event → List ℕ → Turned
ruled R b Stopped e buf = refuse b 12 buf
ruled R b Idle (get k) buf = gets R b b.known k buf
ruled R b Idle recover buf = refuse b 12 buf
ruled R b Open (get k) buf = gets R b b.working k buf
ruled R b Open recover buf = refuse b 12 buf

-- what may stand beside the known map after this call was answered 11
abbrev pub doubt : Book → Phase → Event → Option (List Rec)
doubt b p (get k) = b.pending
doubt b p recover = b.pending

-- one step
abbrev pub turn : Rule → Book → Event → List ℕ → Told → Turned
turn R b e buf answered = ruled R b b.phase e buf
turn R b e buf lost = record { book = stopped b (doubt b b.phase e); reply = refused 11 0; buffer = buf }
turn R b e buf (stood m) = record { book = recovered b m; reply = done; buffer = buf }

-- a recover is accepted, and then the known map or the pending one stands, or it is answered 11; no other call is told of a map
abbrev pub Fair : Book → Event → Told → Type 0
Fair b (get k) answered = Unit {0}
Fair b recover answered = ⊥
Fair b e lost = Unit {0}
Fair b (get k) (stood m) = ⊥
Fair b recover (stood m) = (m ≡ b.known) ⊎ (b.pending ≡ Some m)

-- a call, what it answered and what the buffer then held are the book's
pub record Turns (R : Rule) (b : Book) (e : Event) (buf : List ℕ) (a : Reply) (buf' : List ℕ) (b' : Book) : Type 0 where
  pub told : Told
  pub fair : Fair b e told
  pub is : turn R b e buf told ≡ record { book = b'; reply = a; buffer = buf' }

-- the book of a store that was just formatted or, for the first time, recovered with the map m
abbrev pub opened : List Rec → ℕ → ℕ → ℕ → Book
opened m limit counter changes = record { phase = Idle; known = m; working = m; changes = changes; counter = counter; limit = limit; pending = None }
