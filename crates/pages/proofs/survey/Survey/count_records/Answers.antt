use Rattle.std.proofs.Common.{◌%◌, sym, ap, ◌∙◌, arith}
use Rattle.pages.specs.Surveys.{depth_at, count_at}
use Rattle.pages.proofs.Deciding.{counted_none, counted_first, counted_other}
use Rattle.pages.proofs.survey.Survey.count_records.Goals as goal
use Rattle.pages.proofs.survey.Survey.count_records.Goals.{then-i-width-eq0, else-i-width-eq0}

pub loop-i-init : goal.loop-i-init
loop-i-init c = (sym (counted_none (depth_at c.args.self.now.buckets.now) (count_at c.args.self.now.buckets.now) c.args.self.now.root.depth), omega arith)

pub loop-i-preserved : goal.loop-i-preserved
loop-i-preserved c =
    let i = c.loop-i.i in
    let D = depth_at c.args.self.now.buckets.now in
    let C = count_at c.args.self.now.buckets.now in
    elim c.if-i-width-eq0.branch [
      | then-i-width-eq0 w ↦
          let q = counted_first D C c.args.self.now.root.depth i (ap (λ v. i % v) (sym c.width.ensures) ∙ w.if-i-width-eq0.true) in
          (omega (arith, q, w.n-is, w.from-n.ensures, c.loop-i.invariant.0), omega (arith, w.n-is, w.from-n.ensures, c.loop-i.invariant.1))
      | else-i-width-eq0 w ↦
          let q = counted_other D C c.args.self.now.root.depth i (λ y. w.if-i-width-eq0.false (ap (λ v. i % v) c.width.ensures ∙ y)) in
          (omega (arith, q, w.n-is, c.loop-i.invariant.0), omega (arith, w.n-is, c.loop-i.invariant.1))
    ]
