use Rattle.std.proofs.Common.{length}
use Rattle.std.proofs.lemmas.Result.{err_from_is_err_and}
use Rattle.device.specs.Calls.{writes}
use Rattle.device.proofs.GateLaws.{gate_calls}
use Rattle.cache.proofs.Passed.{group_passed, refused_kept}
use Rattle.cache.proofs.cache.CacheGroupDevice.write.Goals as goal

pub returns-in_err-gate-clause-calls : goal.returns-in_err-gate-clause-calls
returns-in_err-gate-clause-calls g c =
    let q = err_from_is_err_and c.from_residual.result c.from_residual.ensures.1 in
    let refuses = rw c.up.ensures at c.in_err-gate.ensures in
    rw (q.1, q.2) (λ _. gate_calls (λ v. (g.D.Device.meaning v).runs) _ c.page_count.result c.args.page (length c.args.buf.now) _ _ c.in_err-gate.field-0.0 refuses)

pub returns-in_err-gate-clause-kept : goal.returns-in_err-gate-clause-kept
returns-in_err-gate-clause-kept g c =
    let q = err_from_is_err_and c.from_residual.result c.from_residual.ensures.1 in
    let refuses = rw c.up.ensures at c.in_err-gate.ensures in
    rw (q.1, q.2) (λ _. refused_kept g.D.Device.agrees g.D.Device.meaning c.args.self.now c.page_count.result c.args.page (length c.args.buf.now) c.in_err-gate.field-0.0 refuses)

pub returns : goal.returns
returns g c =
    let p = group_passed g.D.Device.agrees g.D.Device.meaning c.args.self.now (writes c.args.page c.args.buf.now) c.write-r.result c.write-r.new.self c.note.new.self
    (rw c.up.ensures at c.in_ok-gate.ensures).2 c.note.ensures.noted g.D.GroupDevice.grouped c.write-r.ensures.does in
    rw c.note.ensures.same (record { does = p.0; calls = p.1; kept = p.2 })
