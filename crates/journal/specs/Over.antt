-- A journal j from the device below it, for any such device, by its ghost members.
use Rattle.std.specs.Prelude.{◌≡◌, ℕ, ◌≤◌, Bool, true, List, [], length}
use Rattle.device.specs.Meaning.{State, spoiled, Distinct, Meaning, Grouped}
use Rattle.device.specs.Calls.{Answer, Call, DeviceCalls, Over}
use Rattle.device.specs.Clauses.{Does, GroupDoes}
use Rattle.journal.specs.declared.journal.Journal.{Journal}
use Rattle.journal.specs.Entries.{Entry}
use Rattle.journal.specs.Waiting.{waiting, pages, AllFit}
use Rattle.journal.specs.Header.{targets}
use Rattle.journal.specs.Standing.{above, home, journal, journal_group}
use Rattle.journal.specs.Crash.{Within, Bodies}

-- the targets that a header names, over a device that means m
abbrev pub reader : Meaning → State → List ℕ
reader m = targets (above m.count)

abbrev pub journaled : {X : Type 0} → (X → Meaning) → Journal X → Meaning
journaled meaning j = journal (reader (meaning j.below)) j.up (waiting j.pending) (meaning j.below)

abbrev pub grouping : {X : Type 0} → (X → Meaning) → Journal X → Grouped
grouping meaning j = journal_group (reader (meaning j.below)) (meaning j.below)

-- a journal agrees with the device below it, which means m
pub record Agrees (T : State → List ℕ) (up : Bool) (es : List Entry) (m : Meaning) : Type 0 where
  -- while it is up the device below runs and no page waits there
  pub below : up ≡ true → m.runs ≡ true
  pub quiet : up ≡ true → m.waits ≡ []
  -- no fate of the header names a group, and each home page has only the fate that it shows
  pub idle : up ≡ true → Within m (Bodies T [] (λ _. spoiled) (home m))
  -- at most 64 pages of its own wait, each once
  pub few : length es ≤ 64
  pub apart : Distinct (pages es)
  pub fit : AllFit (above m.count) es

abbrev pub Agreeing : {X : Type 0} → (X → Type 0) → (X → Meaning) → Journal X → Type 0
Agreeing agrees meaning j = agrees j.below × Agrees (reader (meaning j.below)) j.up (waiting j.pending) (meaning j.below)

-- what a call k of it does, answered r, from j to j'
abbrev pub Doing : {X : Type 0} → (X → Type 0) → (X → Meaning) → Call → Journal X → Answer → Journal X → Type 0
Doing agrees meaning = Does (Agreeing agrees meaning) (journaled meaning)

abbrev pub GroupDoing : {X : Type 0} → (X → Type 0) → (X → Meaning) → Call → Journal X → Answer → Journal X → Type 0
GroupDoing agrees meaning = GroupDoes (Agreeing agrees meaning) (journaled meaning) (grouping meaning)

-- when it calls the device below, and when it answers 11
abbrev pub Calling : {X : Type 0} → (X → Type 0) → (X → Meaning) → Call → Journal X → Answer → Journal X → Type 0
Calling agrees meaning k j r j' = Agreeing agrees meaning j → Over (DeviceCalls meaning) k j.up j.below r j'.below
