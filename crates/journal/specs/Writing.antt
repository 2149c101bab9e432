-- Several pages written below, one after another, and a sync; and the header, and a sync.
use Rattle.std.specs.Prelude.{◌≡◌, ℕ, ◌+◌, ◌<◌, ◌≤◌, true, ◌≢◌, ◌⊎◌, List, [], length, MatchResult, slice_index_or}
use Rattle.device.specs.Meaning.{State, bytes, Meaning}
use Rattle.device.specs.Numbers.{number}
use Rattle.device.specs.Promises.{Down, GainsAt, WriteDone, SyncDone}
use Rattle.device.specs.Calls.{Answer}
use Rattle.journal.specs.Entries.{Entry}
use Rattle.journal.specs.declared.places.Area.{Area}
use Rattle.journal.specs.Waiting.{blank}
use Rattle.journal.specs.Sending.{page_of}

-- where entry j goes: body j, or its home page
abbrev pub spot : Area → List Entry → ℕ → ℕ
spot area es j = page_of area j (slice_index_or es j blank).page

-- what the writes need
pub record Ready (area : Area) (es : List Entry) (m : Meaning) : Type 0 where
  pub running : m.runs ≡ true
  pub room : length m.waits + length es ≤ 64
  pub sized : (j : ℕ) → j < length es → length (slice_index_or es j blank).bytes ≡ 252
  pub within : (j : ℕ) → j < length es → spot area es j < m.count
  pub apart : (i j : ℕ) → i < j → j < length es → spot area es j ≢ spot area es i

-- no page but the first k spots gained a fate
abbrev pub OnlySpots : Area → List Entry → ℕ → Meaning → Meaning → Type 0
OnlySpots area es k m n = (p : ℕ) (s : State) → p < m.count → n.fates p s → m.fates p s ⊎ ((j : ℕ) × (j < k) × (p ≡ spot area es j))

-- after k writes
pub record Wrote (area : Area) (es : List Entry) (k : ℕ) (m n : Meaning) : Type 0 where
  pub count : n.count ≡ m.count
  pub running : n.runs ≡ true
  pub room : length n.waits ≤ length m.waits + k
  pub gains : OnlySpots area es k m n
  pub here : (j : ℕ) → j < k → n.shown (spot area es j) ≡ bytes (slice_index_or es j blank).bytes
  pub others : (p : ℕ) → p < m.count → ((j : ℕ) → j < k → p ≢ spot area es j) → n.shown p ≡ m.shown p

-- power was lost at one of the writes, or at the sync behind them
pub record WroteLost (area : Area) (es : List Entry) (m n : Meaning) : Type 0 where
  pub left : Down m n
  pub gains : OnlySpots area es (length es) m n

abbrev pub WroteAll : Area → List Entry → Meaning → Answer → Meaning → Type 0
WroteAll area es m r n = MatchResult r (λ _. Wrote area es (length es) m n) (λ e. (number e ≡ 11) × WroteLost area es m n)

-- the writes and the sync; d is the device between them
abbrev pub SettledAll : {D : Type 0} → (D → Type 0) → (D → Meaning) → Area → List Entry → D → Answer → D → Type 0
SettledAll {D} agrees meaning area es a r e =
    MatchResult r (λ _. (d : D) × agrees d × Wrote area es (length es) (meaning a) (meaning d) × SyncDone (meaning d) (meaning e))
    (λ f. (number f ≡ 11) × WroteLost area es (meaning a) (meaning e))

-- what a write of the header needs
pub record HeadReady (m : Meaning) : Type 0 where
  pub running : m.runs ≡ true
  pub room : 65 < m.count
  pub quiet : m.waits ≡ []

-- power was lost at the write of the header, or at the sync behind it
pub record HeadLost (buf : List ℕ) (m n : Meaning) : Type 0 where
  pub left : Down m n
  pub gains : GainsAt 0 buf m n

-- the header and the sync; d is the device between them
abbrev pub HeadSet : {D : Type 0} → (D → Type 0) → (D → Meaning) → List ℕ → D → Answer → D → Type 0
HeadSet {D} agrees meaning buf a r e =
    MatchResult r (λ _. (d : D) × agrees d × WriteDone (meaning a) 0 buf (meaning d) × SyncDone (meaning d) (meaning e))
    (λ f. (number f ≡ 11) × HeadLost buf (meaning a) (meaning e))
