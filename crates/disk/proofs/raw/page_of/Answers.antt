use Rattle.std.proofs.Common.{ap, ◌∙◌, get_or, [], arith}
use Rattle.disk.specs.Raw.{raw}
use Rattle.disk.proofs.RawLaws.{at_chunk}
use Rattle.disk.proofs.raw.page_of.Goals as goal

pub returns : goal.returns
unfolding raw
returns c = ap (λ xs. get_or xs c.args.i []) c.as_chunks.ensures.front ∙ at_chunk 256 _ c.args.image.now c.args.i (omega arith)
