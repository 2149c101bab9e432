use Rattle.std.proofs.Common.{◌≡◌, true}
use Rattle.std.proofs.lemmas.Result.{err_from_is_err_and}
use Rattle.disk.specs.Held.{Held, held, started}
use Rattle.disk.proofs.CallLaws.{restart_lost, restarted}
use Rattle.disk.proofs.disk.DiskDevice.restart.Goals as goal

pub returns-in_err-count_call-clause-does : goal.returns-in_err-count_call-clause-does
returns-in_err-count_call-clause-does c =
    let p = err_from_is_err_and c.from_residual.result c.from_residual.ensures.1 in
    rw (p.1, p.2) (λ _. record { agrees = tt; means = restart_lost (held c.args.self.now) (held c.count_call.new.self) c.in_err-count_call.field-0.0 c.in_err-count_call.ensures })

pub returns-clause-does : goal.returns-clause-does
returns-clause-does c =
    let d = c.count_call.new.self in
    let z : Held = held (record { images = c.clear.new.self; running = true; arming = d.arming }) in
    let e : z ≡ started (held d) = cc in
    λ _. record { agrees = tt; means = restarted (held c.args.self.now) (held d) z c.in_ok-count_call.ensures e }
