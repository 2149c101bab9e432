use Rattle.std.proofs.Common.{◌<◌, arith}
use Rattle.disk.specs.Held.{held, count}
use Rattle.disk.proofs.CallLaws.{write_counted}
use Rattle.disk.proofs.disk.DiskDevice.write.Goals as goal

pub returns-clause-does : goal.returns-clause-does
returns-clause-does c =
    let g = c.in_ok-gate.ensures in
    let lt : c.args.page < count (held c.args.self.now) = omega (arith, g.0, c.count.ensures) in
    let h = rw (c.store.ensures.settled, c.store.ensures.written, c.store.ensures.marks) at c.count_call.ensures in
    λ _. record { agrees = tt; means = write_counted (held c.args.self.now) (held c.count_call.new.self) c.args.page c.args.buf.now lt g.1 g.2 c.count_call.result h }
