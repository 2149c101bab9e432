use Rattle.std.proofs.Common.{[], ◌∷◌, Ok, Err}
use Rattle.std.proofs.lemmas.Result.{err_from_is_err_and}
use Rattle.device.specs.Calls.{writes, syncs}
use Rattle.journal.proofs.Sent.{made, stopped, and_then}
use Rattle.journal.proofs.steps.set_header.Goals as goal

pub returns-in_err-write-clause-makes : goal.returns-in_err-write-clause-makes
returns-in_err-write-clause-makes g c =
    let p = err_from_is_err_and c.from_residual.result c.from_residual.ensures.1 in
    let does = c.in_err-write.ensures.does in
    let meaning = g.D.Device.meaning in
    let a = c.args.below.now in
    let d = c.write.new.self in
    let buf = c.args.page.now in
    let f = c.in_err-write.field-0.0 in
    λ h t. rw (p.1, p.2) (stopped meaning (writes 0 buf ∷ []) (syncs ∷ []) f a d (made meaning (writes 0 buf) (Err f) a d t (does h).means))

pub returns-clause-makes : goal.returns-clause-makes
returns-clause-makes g c =
    let does = c.in_ok-write.ensures.does in
    let syncing = c.sync.ensures.does in
    let meaning = g.D.Device.meaning in
    let a = c.args.below.now in
    let d = c.write.new.self in
    let e = c.sync.new.self in
    let buf = c.args.page.now in
    λ h t. and_then meaning (writes 0 buf ∷ []) (syncs ∷ []) c.sync.result a d e t (made meaning (writes 0 buf) (Ok tt) a d t (does h).means)
    (λ u. made meaning syncs c.sync.result d e u (syncing (does h).agrees).means)
