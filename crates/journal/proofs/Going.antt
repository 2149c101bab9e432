-- What a call of the journal does, by the meaning below before and after it.
use Rattle.std.proofs.Common.{ℕ, Bool, List}
use Rattle.device.specs.Meaning.{State, Meaning}
use Rattle.device.specs.Calls.{Answer, Call, GroupStep}
use Rattle.journal.specs.Entries.{Entry}
use Rattle.journal.specs.Standing.{journal, journal_group}
use Rattle.journal.specs.Over.{Agrees}

-- it still agrees with what stands below, and does what a group device does
pub record Went (k : Call) (T : State → List ℕ) (up : Bool) (es : List Entry) (m : Meaning) (r : Answer) (up' : Bool) (es' : List Entry) (n : Meaning) : Type 0 where
  pub agrees : Agrees T up' es' n
  pub means : GroupStep k (journal T up es m) (journal_group T m) r (journal T up' es' n) (journal_group T n)
