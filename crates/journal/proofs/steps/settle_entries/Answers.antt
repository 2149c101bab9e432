use Rattle.std.proofs.Common.{[], ◌∷◌}
use Rattle.std.proofs.lemmas.Result.{err_from_is_err_and}
use Rattle.device.specs.Calls.{syncs}
use Rattle.journal.specs.Waiting.{waiting}
use Rattle.journal.specs.Sending.{placed}
use Rattle.journal.proofs.Sent.{made, stopped, and_then}
use Rattle.journal.proofs.steps.settle_entries.Goals as goal

pub returns-in_err-write_entries-clause-makes : goal.returns-in_err-write_entries-clause-makes
returns-in_err-write_entries-clause-makes g c =
    let p = err_from_is_err_and c.from_residual.result c.from_residual.ensures.1 in
    λ h t. rw (p.1, p.2) (stopped g.D.Device.meaning (placed c.args.area 0 (waiting c.args.entries.now)) (syncs ∷ []) c.in_err-write_entries.field-0.0 c.args.below.now c.write_entries.new.below (c.in_err-write_entries.ensures.makes h t))

pub returns-clause-makes : goal.returns-clause-makes
returns-clause-makes g c =
    let w = c.in_ok-write_entries.ensures in
    let meaning = g.D.Device.meaning in
    let a = c.args.below.now in
    let d = c.write_entries.new.below in
    let e = c.sync.new.self in
    let plan = placed c.args.area 0 (waiting c.args.entries.now) in
    λ h t. and_then meaning plan (syncs ∷ []) c.sync.result a d e t (w.makes h t)
    (λ u. made meaning syncs c.sync.result d e u (c.sync.ensures.does (w.agrees h)).means)
