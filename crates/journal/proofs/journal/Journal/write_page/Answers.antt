use Rattle.std.proofs.Common.{rules, ◌<◌, arith}
use Rattle.std.proofs.lemmas.Result.{err_from_is_err_and}
use Rattle.journal.specs.Standing.{above}
use Rattle.journal.proofs.Layer.{refused_write, kept_write}
use Rattle.journal.proofs.journal.Journal.write_page.Goals as goal

pub returns-in_err-gate : goal.returns-in_err-gate
returns-in_err-gate g c =
    let p = err_from_is_err_and c.from_residual.result c.from_residual.ensures.1 in
    let x = refused_write g.D.Device.agrees g.D.Device.meaning g.D.Device.sound c.args.self.now c.count.result c.args.page c.args.buf.now c.count.ensures c.in_err-gate.field-0.0 c.in_err-gate.ensures in
    record { does = rw (p.1, p.2) x.0; calls = rw (p.1, p.2) x.1; sends = search rules }

pub returns : goal.returns
returns g c =
    let gate = c.in_ok-gate.ensures in
    let s = c.args.self.now in
    let w : c.args.page < above (g.D.Device.meaning s.below).count = let e = c.count.ensures in let q = gate.0 in omega arith in
    let x = kept_write g.D.Device.agrees g.D.Device.meaning g.D.Device.sound s gate.2 c.put.new.self c.args.page c.args.buf.now w gate.1 c.put.result c.put.ensures in
    record { does = x.0; calls = x.1; sends = search rules }
