-- What the calls of a store promise, from the store s to the store s': with a book, and without one.
use Rattle.std.specs.Prelude.{◌≡◌, ℕ, ◌-◌, ◌<◌, min, cond, List, [], MatchBool, ◌==◌}
use Rattle.device.specs.Meaning.{State, Meaning, Grouped}
use Rattle.device.specs.Calls.{GroupCalls}
use Rattle.keys.specs.Rule.{Rule}
use Rattle.tree.specs.Maps.{Rec}
use Rattle.pages.specs.declared.root.Condition.{Condition}
use Rattle.pages.specs.Images.{root, number_of, Lowest, WellFormed}
use Rattle.store.specs.declared.kinds.Phase.TheVariants.{Stopped}
use Rattle.store.specs.declared.store.Store.{Store}
use Rattle.store.specs.Replies.{Event, get, recover, Reply, done, got, refused, eleven}
use Rattle.store.specs.Book.{Book, Turns, opened}
use Rattle.store.specs.Agree.{Faithful, Unopened}

-- the largest number of buckets that a device of n pages has room for
abbrev pub most : ℕ → ℕ
most n = min (n - 5) 256

-- only 11 stops a store: the store after an answer
abbrev pub after : {D K : Type 0} → Reply → Store D K → Store D K
after a s = record { device = s.device; phase = cond (eleven a) Stopped s.phase; counter = s.counter; changes = s.changes; rule = s.rule }

module _ {D K : Type 0} (R : Rule) (agrees : D → Type 0) (meaning : D → Meaning) (grouped : D → Grouped) where
  -- the calls that were made on the device; the answer is 11 exactly if one of them was answered 11
  abbrev pub Touches : Store D K → Reply → Store D K → Type 0
  Touches s a s' = GroupCalls meaning grouped (eleven a) s.device s'.device

  -- with every book: the answer and the buffer are the book's, and the store agrees with the book after the call
  abbrev pub Follows : Event → Store D K → List ℕ → Reply → List ℕ → Store D K → Type 0
  Follows e s buf a buf' s' =
      (b : Book) → Faithful R agrees meaning grouped s b → (b' : Book) × Turns R b e buf a buf' b' × Faithful R agrees meaning grouped s' b' × Touches s a s'

  -- a store that is stopped answers 12 and touches nothing, whatever its device
  abbrev pub Rests : Store D K → List ℕ → Reply → List ℕ → Store D K → Type 0
  Rests s buf a buf' s' = s.phase ≡ Stopped → (a ≡ refused 12 0) × (s' ≡ s) × (buf' ≡ buf)

  -- the counters of a store stay
  pub record SameCounts (s s' : Store D K) : Type 0 where
    pub counter : s'.counter ≡ s.counter
    pub changes : s'.changes ≡ s.changes

  -- without a book, a recover was refused with the number k, and with 21 for the condition c: an image that might stand breaks it, and none below it
  abbrev pub NotOpened : Store D K → ℕ → ℕ → Store D K → Type 0
  NotOpened s k c s' =
      MatchBool (k == 20) (((meaning s.device).count < 6) × (s' ≡ s))
      (MatchBool (k == 21) ((e : ℕ → State) × (b : Condition) × (grouped s.device).ends e × (c ≡ number_of b) × Lowest R (meaning s.device).count e b × Unopened agrees s' × SameCounts s s')
      (MatchBool (k == 11) (Unopened agrees s' × SameCounts s s') ⊥))

  -- without a book, a recover opens what stands if it is well formed, as the map it holds
  abbrev pub Opens : Store D K → Reply → Store D K → Type 0
  Opens s done s' =
      (e : ℕ → State) × (m : List Rec) × (grouped s.device).ends e × WellFormed R (meaning s.device).count e m × Faithful R agrees meaning grouped s' (opened m (root e).limit s.counter s.changes)
  Opens s (got l d n) s' = ⊥
  Opens s (refused k c) s' = NotOpened s k c s'

  -- the calls of a store with no book
  abbrev pub Alone : Event → Store D K → List ℕ → Reply → List ℕ → Store D K → Type 0
  Alone (get k) s buf a buf' s' = Rests s buf a buf' s'
  Alone recover s buf a buf' s' = Unopened agrees s → Touches s a s' × Opens s a s' × (buf' ≡ buf)

  -- a format of any store
  abbrev pub Formats : Store D K → Reply → Store D K → Type 0
  Formats s done s' = Faithful R agrees meaning grouped s' (opened [] (most (meaning s.device).count) s.counter 0) × Touches s done s'
  Formats s (got l d n) s' = ⊥
  Formats s (refused k c) s' =
      MatchBool (k == 20) (((meaning s.device).count < 6) × (s' ≡ s)) (MatchBool (k == 11) (Unopened agrees s' × (s'.counter ≡ s.counter) × Touches s (refused 11 0) s') ⊥)
