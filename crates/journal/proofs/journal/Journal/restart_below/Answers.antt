use Rattle.std.proofs.Common.{rules}
use Rattle.journal.proofs.Layer.{restarted}
use Rattle.journal.proofs.journal.Journal.restart_below.Goals as goal

pub returns : goal.returns
returns g c =
    let y = c.revive.ensures in
    let q = c.recover-r.ensures in
    let x = restarted g.D.Device.agrees g.D.Device.meaning g.D.Device.sound c.args.self.now c.revive.new.self c.recover-r.new.below c.recover-r.result c.revive.result
    y.below y.same y.none y.up q.agrees q.makes q.recovered in
    record { does = x.0; calls = x.1; sends = search rules }
