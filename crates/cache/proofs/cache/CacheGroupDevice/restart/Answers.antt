use Rattle.std.proofs.Common.{refl}
use Rattle.device.specs.Calls.{restarts}
use Rattle.cache.proofs.Passed.{group_passed}
use Rattle.cache.proofs.cache.CacheGroupDevice.restart.Goals as goal

pub returns : goal.returns
returns g c =
    let p = group_passed g.D.Device.agrees g.D.Device.meaning c.args.self.now restarts c.restart-r.result c.restart-r.new.self c.revive.new.self refl c.revive.ensures.revived g.D.GroupDevice.grouped c.restart-r.ensures.does in
    rw c.revive.ensures.same (record { does = p.0; calls = p.1; kept = p.2 })
