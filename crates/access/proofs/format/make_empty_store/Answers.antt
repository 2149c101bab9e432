use Rattle.std.proofs.Common.{ℕ, ◌+◌, ◌<◌, ◌≤◌, List, length, sym, subst, arith}
use Rattle.std.proofs.lemmas.Result.{err_from_is_err_and}
use Rattle.access.proofs.Making.{restarted, restart_calls, restart_broken, write_broken, sync_made}
use Rattle.access.proofs.format.make_empty_store.Goals as goal

pub returns-in_err-restart : goal.returns-in_err-restart
returns-in_err-restart g c =
    let p = err_from_is_err_and c.from_residual.result c.from_residual.ensures.1 in
    rw (p.1, p.2) (λ six a. restart_broken g.D.Device.agrees g.D.Device.meaning g.D.GroupDevice.grouped c.args.device.now c.restart.new.self _ a c.in_err-restart.ensures.does)

pub returns-in_err-write_empty_pages : goal.returns-in_err-write_empty_pages
returns-in_err-write_empty_pages g c =
    let p = err_from_is_err_and c.from_residual-in_err-write_empty_pages.result c.from_residual-in_err-write_empty_pages.ensures.1 in
    rw (p.1, p.2) (λ six a.
    let d = c.args.device.now in
    let e = c.restart.new.self in
    let r = c.in_ok-restart.ensures.does in
    let m = (r a).means.0 in
    let n = m.ran.count in
    let w = c.in_err-write_empty_pages.ensures (subst (λ k. 6 ≤ k) (sym n) six) (subst (λ (l : List ℕ). length l + 6 ≤ 64) (sym m.waits) (omega arith)) (restarted g.D.Device.agrees g.D.Device.meaning g.D.GroupDevice.grouped d e _ a r) in
    (w.0, write_broken g.D.Device.agrees g.D.Device.meaning g.D.GroupDevice.grouped d e (restart_calls g.D.Device.agrees g.D.Device.meaning g.D.GroupDevice.grouped d e _ a r) n c.write_empty_pages.new.device w.1))

pub returns : goal.returns
returns g c = λ six a.
    let d = c.args.device.now in
    let e = c.restart.new.self in
    let r = c.in_ok-restart.ensures.does in
    let m = (r a).means.0 in
    let n = m.ran.count in
    let w = c.in_ok-write_empty_pages.ensures (subst (λ k. 6 ≤ k) (sym n) six) (subst (λ (l : List ℕ). length l + 6 ≤ 64) (sym m.waits) (omega arith)) (restarted g.D.Device.agrees g.D.Device.meaning g.D.GroupDevice.grouped d e _ a r) in
    sync_made g.D.Device.agrees g.D.Device.meaning g.D.GroupDevice.grouped d e (restart_calls g.D.Device.agrees g.D.Device.meaning g.D.GroupDevice.grouped d e _ a r) n
    g.K.KeyRule.rule.kind c.args.limit 6 (λ i. i < 6) c.write_empty_pages.new.device c.sync.new.self c.sync.result six w.0 w.1 c.sync.ensures.does
