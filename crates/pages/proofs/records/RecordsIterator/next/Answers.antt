use Rattle.std.proofs.Common.{arith}
use Rattle.pages.proofs.Walks.{shorter}
use Rattle.pages.proofs.records.RecordsIterator.next.Goals as goal

pub returns-clause-goes : goal.returns-clause-goes
returns-clause-goes c = record { on = λ _. (tt, tt, omega (arith, shorter _ _ _ c.in_ok-record.ensures)); keeps = tt; rests = λ _. tt }
