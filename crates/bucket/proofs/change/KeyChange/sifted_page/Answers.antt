use Rattle.std.proofs.Common.{sym}
use Rattle.bucket.specs.Sifts.{stays}
use Rattle.bucket.proofs.Filling.{filled_kept, filled_not, filled_all}
use Rattle.bucket.proofs.change.KeyChange.sifted_page.Goals as goal

pub loop-record-preserved-then-is_kept : goal.loop-record-preserved-then-is_kept
loop-record-preserved-then-is_kept g c =
    filled_kept (stays g.K.KeyRule.rule c.args.self.key.now c.args.bits c.args.prefix) c.args.bits c.args.self.records.now _ _ _ c.loop-record.page c.add_record.new.page c.add_record.result
    c.in-Some.ensures.steps.1.1 (sym c.if-is_kept.ensures) c.add_record.ensures c.loop-record.invariant

pub loop-record-preserved : goal.loop-record-preserved
loop-record-preserved g c =
    filled_not (stays g.K.KeyRule.rule c.args.self.key.now c.args.bits c.args.prefix) c.args.bits c.args.self.records.now _ _ _ c.loop-record.page c.in-Some.ensures.steps.1.1 (sym c.if-is_kept.ensures)
    c.loop-record.invariant

pub returns : goal.returns
returns g c =
    filled_all (stays g.K.KeyRule.rule c.args.self.key.now c.args.bits c.args.prefix) c.args.bits c.args.self.records.now c.loop-record.record-iterator.left.now c.loop-record.page c.in-None.ensures.steps.1.0
    c.loop-record.invariant
