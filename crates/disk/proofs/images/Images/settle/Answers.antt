use Rattle.std.proofs.Common.{◌<◌, refl, sym, arith}
use Rattle.disk.specs.Image.{count_of}
use Rattle.disk.proofs.SweepLaws.{count_settled, count_marks, swept_none, marks_stay, rank_none, cut_step, keep_step}
use Rattle.disk.proofs.images.Images.settle.Goals as goal
use Rattle.disk.proofs.images.Images.settle.Goals.{then-self-i-ne0, else-self-i-ne0}

pub loop-i-init : goal.loop-i-init
loop-i-init c = record { turn = sym (rank_none c.args.self.now.marks.now); few = omega arith; written = refl; swept = swept_none _ _ _ _ }

pub bounds-self-i : goal.bounds-self-i
bounds-self-i c =
    let d = c.args.self.now in
    let s = d.settled.now in
    let w = d.written.now in
    let k = d.marks.now in
    let lt : c.loop-i.i < count_of s w k = omega (arith, c.count-i-end.ensures) in
    omega (arith, marks_stay _ s k _ (count_settled s w k) (count_marks s w k) c.loop-i.i _ _ c.loop-i.invariant.swept lt, count_marks s w k)

pub loop-i-preserved : goal.loop-i-preserved
loop-i-preserved c =
    let d = c.args.self.now in
    let lt : c.loop-i.i < count_of d.settled.now d.written.now d.marks.now = omega (arith, c.count-i-end.ensures) in
    elim c.if-self-i-ne0.branch [
      | then-self-i-ne0 w ↦
          let h = cut_step _ _ _ c.args.letters.now c.args.kept c.loop-i.i c.loop-i.turn _ _ _ c.requires lt c.loop-i.invariant.swept c.loop-i.invariant.written c.loop-i.invariant.turn w.if-self-i-ne0.true in
          rw (w.turn-is, w.self-is, w.leave.ensures.settled, w.leave.ensures.marks, w.leave.ensures.written)
          (record { turn = h.0; few = omega arith; written = c.loop-i.invariant.written; swept = h.1 })
      | else-self-i-ne0 w ↦
          let h = keep_step _ _ _ c.args.letters.now c.args.kept c.loop-i.i c.loop-i.turn _ _ _ c.requires lt c.loop-i.invariant.swept c.loop-i.invariant.written c.loop-i.invariant.turn w.if-self-i-ne0.false in
          rw (w.turn-is, w.self-is) (record { turn = h.0; few = omega arith; written = c.loop-i.invariant.written; swept = h.1 })
    ]
