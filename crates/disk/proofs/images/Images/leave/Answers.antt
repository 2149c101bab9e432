use Rattle.std.proofs.Common.{◌*◌, ap, ◌∙◌}
use Rattle.disk.specs.Raw.{put_raw}
use Rattle.disk.proofs.RawLaws.{back, put_is}
use Rattle.disk.proofs.images.Images.leave.Goals as goal

pub returns-clause-settled : goal.returns-clause-settled
returns-clause-settled c =
    let s = c.args.self.now.settled.now in
    put_is s c.copy_from_slice.new.self c.args.i _ (back (c.args.i * 256) 256) ∙ ap (put_raw s c.args.i) (c.copy_from_slice.ensures.after ∙ c.left-left.ensures)
