use Rattle.std.proofs.Common.{◌*◌, ◌∙◌, arith}
use Rattle.std.proofs.lemmas.List.{length-set}
use Rattle.directory.specs.Names.{at}
use Rattle.directory.proofs.Filling.{filled_more}
use Rattle.directory.proofs.entries.halve.Goals as goal

pub loop-pair-preserved : goal.loop-pair-preserved
loop-pair-preserved c = (
  filled_more c.loop-pair.entries c.args.entries.now (λ k. at c.args.entries.now (2 * k)) c.loop-pair.pair (at c.loop-pair.entries (2 * c.loop-pair.pair)) (omega arith) (c.loop-pair.invariant.0.above (2 * c.loop-pair.pair) (omega arith)) c.loop-pair.invariant.0,
  length-set c.loop-pair.entries c.loop-pair.pair _ ∙ c.loop-pair.invariant.1,
)
