use Rattle.std.proofs.Common.{[], Err, sym, ◌∙◌}
use Rattle.std.proofs.lemmas.Bool.{eq-eqb, cond-true}
use Rattle.std.proofs.lemmas.Result.{err_from_is_err_and}
use Rattle.device.specs.Calls.{syncs, lost}
use Rattle.cache.proofs.Passed.{group_passed, down_kept}
use Rattle.cache.proofs.cache.CacheGroupDevice.sync.Goals as goal

pub returns-in_err-running-clause-kept : goal.returns-in_err-running-clause-kept
returns-in_err-running-clause-kept g c =
    let q = err_from_is_err_and c.from_residual.result c.from_residual.ensures.1 in
    let down = c.in_err-running.ensures in
    rw (q.1, q.2) (λ _. down_kept g.D.Device.agrees g.D.Device.meaning c.args.self.now down.0 ∙ sym (cond-true (lost (Err c.in_err-running.field-0.0)) [] _ (eq-eqb _ 11 down.1)))

pub returns : goal.returns
returns g c =
    let p = group_passed g.D.Device.agrees g.D.Device.meaning c.args.self.now syncs c.sync-r.result c.sync-r.new.self c.hear.new.self c.in_ok-running.ensures c.hear.ensures.heard g.D.GroupDevice.grouped c.sync-r.ensures.does in
    rw c.hear.ensures.same (record { does = p.0; calls = p.1; kept = p.2 })
