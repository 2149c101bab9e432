use Rattle.std.proofs.Common.{sym, arith}
use Rattle.pages.proofs.Walks.{shorter}
use Rattle.bucket.specs.Sifts.{stays}
use Rattle.bucket.proofs.Sifting.{loaded_kept, loaded_not, loaded_all}
use Rattle.bucket.proofs.change.KeyChange.load_of.Goals as goal

pub overflow_sub-load : goal.overflow_sub-load
overflow_sub-load g c = omega (arith, shorter _ _ _ c.in-Some.ensures)

pub loop-record-smaller-then-is_kept : goal.loop-record-smaller-then-is_kept
loop-record-smaller-then-is_kept g c = omega (arith, shorter _ _ _ c.in-Some.ensures)

pub loop-record-preserved-then-is_kept : goal.loop-record-preserved-then-is_kept
loop-record-preserved-then-is_kept g c = (
  loaded_kept (stays g.K.KeyRule.rule c.args.self.key.now c.args.bits c.args.prefix) c.args.self.records.now _ _ _ c.loop-record.load c.in-Some.ensures (sym c.if-is_kept.ensures) c.loop-record.invariant.0,
  omega (arith, c.loop-record.invariant.1, shorter _ _ _ c.in-Some.ensures),
)

pub loop-record-smaller : goal.loop-record-smaller
loop-record-smaller g c = omega (arith, shorter _ _ _ c.in-Some.ensures)

pub loop-record-preserved : goal.loop-record-preserved
loop-record-preserved g c = (
  loaded_not (stays g.K.KeyRule.rule c.args.self.key.now c.args.bits c.args.prefix) c.args.self.records.now _ _ _ c.loop-record.load c.in-Some.ensures (sym c.if-is_kept.ensures) c.loop-record.invariant.0,
  omega (arith, c.loop-record.invariant.1, shorter _ _ _ c.in-Some.ensures),
)

pub returns : goal.returns
returns g c = loaded_all (stays g.K.KeyRule.rule c.args.self.key.now c.args.bits c.args.prefix) c.args.self.records.now c.loop-record.left.now c.loop-record.load c.in_default.ensures c.loop-record.invariant.0
