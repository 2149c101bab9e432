use Rattle.std.proofs.Common.{◌+◌, ◌≤◌, length}
use Rattle.bucket.specs.Sifts.{stays}
use Rattle.bucket.proofs.Sifting.{Loaded}
use Rattle.bucket.proofs.change.KeyChange.load_of.Given as goal

abbrev pub invariant-loop-record : goal.invariant-loop-record
invariant-loop-record g l = Loaded (stays g.K.KeyRule.rule l.self.key.now l.bits l.prefix) l.self.records.now l.left l.load × (l.load + length l.left ≤ length l.self.records.now)

abbrev pub decreases-loop-record : goal.decreases-loop-record
decreases-loop-record g l = length l.left
