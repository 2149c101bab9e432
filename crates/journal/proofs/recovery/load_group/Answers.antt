use Rattle.std.proofs.Common.{ℕ, ◌≤◌, List, [], length, sym, subst}
use Rattle.std.proofs.lemmas.Result.{err_from_is_err_and}
use Rattle.journal.specs.Header.{targets}
use Rattle.journal.specs.Waiting.{waiting}
use Rattle.journal.specs.Sound.{short}
use Rattle.journal.proofs.Sent.{and_then}
use Rattle.journal.proofs.Looked.{found_from, awake_same}
use Rattle.journal.proofs.recovery.load_group.Goals as goal

pub returns-in_err-named-clause-makes : goal.returns-in_err-named-clause-makes
returns-in_err-named-clause-makes g c =
    let p = err_from_is_err_and c.from_residual.result c.from_residual.ensures.1 in
    λ h t. rw (p.1, p.2) (c.in_err-named.ensures.makes h t)

pub returns-clause-makes : goal.returns-clause-makes
returns-clause-makes g c =
    let x = c.in_ok-named.ensures in
    let meaning = g.D.Device.meaning in
    let a = c.args.below.now in
    let d = c.read_header.new.below in
    λ h t. and_then meaning [] [] c.load.result a d c.load.new.below t (x.makes h t) (c.load.ensures.makes (x.agrees h))

pub returns-clause-found : goal.returns-clause-found
returns-clause-found g c =
    let x = c.in_ok-named.ensures in
    let meaning = g.D.Device.meaning in
    let a = c.args.below.now in
    let d = c.read_header.new.below in
    let ts = c.in_ok-named.named.items in
    λ h aw.
    let named = (x.header h aw).0 in
    let few : length ts ≤ 64 = subst (λ (l : List ℕ). length l ≤ 64) (sym named) (short c.args.count ((meaning a).shown 0)) in
    found_from (targets c.args.count) (meaning a) (meaning d) ts few aw named (x.header h aw).1 (meaning c.load.new.below) c.load.result (waiting c.load.new.group)
    (c.load.ensures.loaded (x.agrees h) (awake_same (meaning a) (meaning d) (x.header h aw).1 aw))
