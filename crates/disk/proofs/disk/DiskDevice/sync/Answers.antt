use Rattle.std.proofs.Common.{refl, subst}
use Rattle.std.proofs.lemmas.Result.{err_from_is_err_and}
use Rattle.disk.specs.Held.{Held, held, counted, Synced}
use Rattle.disk.proofs.SweepLaws.{new_settles}
use Rattle.disk.proofs.CallLaws.{sync_lost, synced}
use Rattle.disk.proofs.disk.DiskDevice.sync.Goals as goal

pub returns-in_err-count_call-clause-does : goal.returns-in_err-count_call-clause-does
returns-in_err-count_call-clause-does c =
    let p = err_from_is_err_and c.from_residual-in_err-count_call.result c.from_residual-in_err-count_call.ensures.1 in
    rw (p.1, p.2) (λ _. record { agrees = tt; means = sync_lost (held c.args.self.now) (held c.count_call.new.self) c.in_err-count_call.field-0.0 c.in_err-count_call.ensures })

pub returns-clause-does : goal.returns-clause-does
returns-clause-does c =
    let d = c.count_call.new.self in
    let s : Synced (held d) (held (record { images = c.settle.new.self; running = d.running; arming = d.arming })) =
    record { pages = new_settles _ _ _ _ _ _ c.settle.ensures.pages; written = c.settle.ensures.written; running = refl; left = refl; letters = refl; kept = refl } in
    λ _. record { agrees = tt; means = synced (held c.args.self.now) (held d) _ c.in_ok-running.ensures c.in_ok-count_call.ensures s }

pub returns-clause-exact : goal.returns-clause-exact
returns-clause-exact c =
    let d = c.count_call.new.self in
    let z : Held = held (record { images = c.settle.new.self; running = d.running; arming = d.arming }) in
    let s : Synced (held d) z =
    record { pages = new_settles _ _ _ _ _ _ c.settle.ensures.pages; written = c.settle.ensures.written; running = refl; left = refl; letters = refl; kept = refl } in
    let t : Synced (counted (held c.args.self.now)) z = subst (λ (v : Held). Synced v z) c.in_ok-count_call.ensures.1 s in
    let u = rw c.in_ok-running.ensures at t in
    rw (c.in_ok-running.ensures, c.in_ok-count_call.ensures.0) (refl, u)
