use Rattle.std.proofs.Common.{rules, refl, Ok, ◌<◌, length, arith}
use Rattle.std.proofs.lemmas.Result.{err_from_is_err_and}
use Rattle.std.proofs.lemmas.Bool.Decides.{nat_tests}
use Rattle.device.specs.Calls.{syncs}
use Rattle.journal.specs.Waiting.{waiting}
use Rattle.journal.proofs.Layer.{down_sync, unmoved, synced}
use Rattle.journal.proofs.journal.Journal.sync_pending.Goals as goal

pub returns-in_err-running-clause-does : goal.returns-in_err-running-clause-does
returns-in_err-running-clause-does g c =
    let p = err_from_is_err_and c.from_residual.result c.from_residual.ensures.1 in
    let d = c.in_err-running.ensures in
    rw (p.1, p.2, d.1) (down_sync g.D.Device.agrees g.D.Device.meaning g.D.Device.sound c.args.self.now d.0)

pub returns-then-is_empty-clause-calls : goal.returns-then-is_empty-clause-calls
returns-then-is_empty-clause-calls g c = unmoved g.D.Device.agrees g.D.Device.meaning g.D.Device.sound syncs c.args.self.now c.args.self.now (Ok tt) refl refl

pub returns : goal.returns
returns g c =
    let s = c.args.self.now in
    let some : 0 < length (waiting s.pending) = grind (arith, nat_tests) in
    let y = c.hear.ensures in
    let q = c.commit-r.ensures in
    let x = synced g.D.Device.agrees g.D.Device.meaning g.D.Device.sound s c.hear.new.self c.commit-r.new.below c.commit-r.result c.hear.result y.below y.same c.clear.new.self c.in_ok-running.ensures some c.clear.ensures y.after
    q.agrees q.makes q.committed in
    record { does = x.0; calls = search rules; sends = x.1 }
