use Rattle.std.proofs.Common.{length}
use Rattle.pages.proofs.Placing.{Placing}
use Rattle.pages.proofs.survey.records_placed.Given as goal

abbrev pub invariant-loop-record : goal.invariant-loop-record
invariant-loop-record g l = Placing g.K.KeyRule.rule l.depth l.prefix l.bytes l.left

abbrev pub decreases-loop-record : goal.decreases-loop-record
decreases-loop-record g l = length l.left
