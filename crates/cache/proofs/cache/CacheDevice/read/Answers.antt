use Rattle.std.proofs.Common.{length}
use Rattle.std.proofs.lemmas.Result.{err_from_is_err_and}
use Rattle.device.specs.Calls.{reads}
use Rattle.device.proofs.GateLaws.{gate_calls}
use Rattle.cache.proofs.Passed.{passed, refused_kept, kept_read, same_still, absent_still}
use Rattle.cache.proofs.cache.CacheDevice.read.Goals as goal

pub returns-in_err-gate-clause-calls : goal.returns-in_err-gate-clause-calls
returns-in_err-gate-clause-calls g c =
    let q = err_from_is_err_and c.from_residual.result c.from_residual.ensures.1 in
    let refuses = rw c.up.ensures at c.in_err-gate.ensures in
    rw (q.1, q.2) (λ _. gate_calls (λ v. (g.D.Device.meaning v).runs) _ c.page_count.result c.args.page (length c.args.buf.now) _ _ c.in_err-gate.field-0.0 refuses)

pub returns-in_err-gate-clause-kept : goal.returns-in_err-gate-clause-kept
returns-in_err-gate-clause-kept g c =
    let q = err_from_is_err_and c.from_residual.result c.from_residual.ensures.1 in
    let refuses = rw c.up.ensures at c.in_err-gate.ensures in
    rw (q.1, q.2) (λ _. refused_kept g.D.Device.agrees g.D.Device.meaning c.args.self.now c.page_count.result c.args.page (length c.args.buf.now) c.in_err-gate.field-0.0 refuses)

pub returns-in-Some : goal.returns-in-Some
returns-in-Some g c =
    let there = c.in-Some.ensures in
    let gate = rw c.up.ensures at c.in_ok-gate.ensures in
    let p = kept_read g.D.Device.agrees g.D.Device.meaning c.args.self.now c.page_count.result c.args.page c.args.buf.now c.page_count.ensures gate.0 gate.1 gate.2 there.0 c.in-Some.bytes.now there.1 in
    rw c.copy_from_slice.ensures.after (record { does = p.0; calls = p.1; kept = p.2; still = same_still g.D.Device.agrees g.D.Device.meaning c.args.self.now c.args.page })

pub returns : goal.returns
returns g c =
    let absent = c.in_default.ensures in
    let p = passed g.D.Device.agrees g.D.Device.meaning c.args.self.now (reads c.args.page c.args.buf.now c.read-r.new.buf) c.read-r.result c.read-r.new.self c.note.new.self
    (rw c.up.ensures at c.in_ok-gate.ensures).2 c.note.ensures.noted c.read-r.ensures.does in
    rw c.note.ensures.same (record { does = p.0; calls = p.1; kept = p.2; still = absent_still g.D.Device.agrees g.D.Device.meaning c.args.self.now c.args.page _ absent })
