use Rattle.std.proofs.Common.{◌*◌, ap, ◌∙◌}
use Rattle.disk.specs.Raw.{put_raw}
use Rattle.disk.proofs.RawLaws.{back, put_is}
use Rattle.disk.proofs.images.Images.store.Goals as goal

pub returns-clause-written : goal.returns-clause-written
returns-clause-written c =
    let w = c.args.self.now.written.now in
    put_is w c.seal.new.raw c.args.i _ (back (c.args.i * 256) 256) ∙ ap (put_raw w c.args.i) c.seal.ensures
