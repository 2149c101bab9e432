use Rattle.device.specs.Calls.{discards}
use Rattle.cache.proofs.Passed.{group_passed, down_kept}
use Rattle.cache.proofs.cache.CacheGroupDevice.discard.Goals as goal

pub returns-in_err-running-clause-kept : goal.returns-in_err-running-clause-kept
returns-in_err-running-clause-kept g c = λ _. down_kept g.D.Device.agrees g.D.Device.meaning c.args.self.now c.in_err-running.ensures.0

pub returns : goal.returns
returns g c =
    let p = group_passed g.D.Device.agrees g.D.Device.meaning c.args.self.now discards c.discard-r.result c.discard-r.new.self c.forget.new.self c.in_ok-running.ensures c.forget.ensures.forgot g.D.GroupDevice.grouped c.discard-r.ensures.does in
    rw c.forget.ensures.same (record { does = p.0; calls = p.1; kept = p.2 })
