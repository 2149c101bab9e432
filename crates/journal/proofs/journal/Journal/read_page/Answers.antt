use Rattle.std.proofs.Common.{rules, ◌≡◌, ℕ, ◌<◌, Some, None, ap, ◌∙◌, subst, arith}
use Rattle.std.proofs.lemmas.Result.{err_from_is_err_and}
use Rattle.device.specs.Calls.{reads}
use Rattle.device.specs.Clauses.{Does}
use Rattle.journal.specs.Standing.{above}
use Rattle.journal.specs.Waiting.{waiting, look_up}
use Rattle.journal.proofs.Helds.{found, not_found}
use Rattle.journal.proofs.Layer.{refused_read, held_read, home_read}
use Rattle.journal.proofs.journal.Journal.read_page.Goals as goal

pub returns-in_err-gate : goal.returns-in_err-gate
returns-in_err-gate g c =
    let p = err_from_is_err_and c.from_residual.result c.from_residual.ensures.1 in
    let x = refused_read g.D.Device.agrees g.D.Device.meaning g.D.Device.sound c.args.self.now c.count.result c.args.page c.args.buf.now c.count.ensures c.in_err-gate.field-0.0 c.in_err-gate.ensures in
    record { does = rw (p.1, p.2) x.0; calls = rw (p.1, p.2) x.1; sends = search rules }

pub returns-in-Some : goal.returns-in-Some
returns-in-Some g c =
    let gate = c.in_ok-gate.ensures in
    let s = c.args.self.now in
    let w : c.args.page < above (g.D.Device.meaning s.below).count = let e = c.count.ensures in let q = gate.0 in omega arith in
    let there : Some c.copy_from_slice.new.self ≡ look_up (waiting s.pending) c.args.page = ap Some c.copy_from_slice.ensures.after ∙ c.in-Some.ensures in
    let x = held_read g.D.Device.agrees g.D.Device.meaning g.D.Device.sound s gate.2 s.pending c.args.page c.args.buf.now w gate.1 c.copy_from_slice.new.self
    (found (waiting s.pending) c.args.page c.copy_from_slice.new.self there) in
    record { does = x.0; calls = x.1; sends = search rules }

pub returns : goal.returns
returns g c =
    let gate = c.in_ok-gate.ensures in
    let s = c.args.self.now in
    let y = c.hear.ensures in
    let w : c.args.page < above (g.D.Device.meaning s.below).count = let e = c.count.ensures in let q = gate.0 in omega arith in
    let none : None ≡ look_up (waiting s.pending) c.args.page = c.in_default.ensures in
    let x = home_read g.D.Device.agrees g.D.Device.meaning g.D.Device.sound s c.hear.new.self c.read-r.new.self c.read-r.result c.hear.result y.below y.same
    c.args.page c.args.buf.now c.read-r.new.buf gate.2 w gate.1 (not_found (waiting s.pending) c.args.page none)
    y.after (subst (λ (i : ℕ). Does g.D.Device.agrees g.D.Device.meaning (reads i c.args.buf.now c.read-r.new.buf) s.below c.read-r.result c.read-r.new.self) c.home_page.ensures c.read-r.ensures.does) in
    record { does = x.0.0; calls = x.0.1; sends = x.1 }
