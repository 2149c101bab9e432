use Rattle.bucket.specs.Sifts.{stays}
use Rattle.bucket.proofs.Filling.{Filled}
use Rattle.bucket.proofs.change.KeyChange.sifted_page.Given as goal

abbrev pub invariant-loop-record : goal.invariant-loop-record
invariant-loop-record g l = Filled (stays g.K.KeyRule.rule l.self.key.now l.bits l.prefix) l.bits l.self.records.now l.record-iterator.left.now l.page
