use Rattle.std.proofs.Common.{rules}
use Rattle.std.proofs.lemmas.Result.{err_from_is_err_and}
use Rattle.journal.proofs.Layer.{down_discard, discarded}
use Rattle.journal.proofs.journal.Journal.discard_pending.Goals as goal

pub returns-in_err-running-clause-does : goal.returns-in_err-running-clause-does
returns-in_err-running-clause-does g c =
    let p = err_from_is_err_and c.from_residual.result c.from_residual.ensures.1 in
    let d = c.in_err-running.ensures in
    rw (p.1, p.2, d.1) (down_discard g.D.Device.agrees g.D.Device.meaning g.D.Device.sound c.args.self.now d.0)

pub returns : goal.returns
returns g c =
    let x = discarded g.D.Device.agrees g.D.Device.meaning g.D.Device.sound c.args.self.now c.in_ok-running.ensures c.clear.new.self c.clear.ensures in
    record { does = x.0; calls = x.1; sends = search rules }
