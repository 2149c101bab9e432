use Rattle.std.proofs.Common.{◌<◌, arith}
use Rattle.std.proofs.lemmas.Result.{err_from_is_err_and}
use Rattle.disk.specs.Held.{held, count}
use Rattle.disk.proofs.CallLaws.{none_given, read_lost, read_done, read_spoiled, shown_fits}
use Rattle.disk.proofs.disk.DiskDevice.read.Goals as goal

pub returns-in_err-count_call-clause-does : goal.returns-in_err-count_call-clause-does
returns-in_err-count_call-clause-does c =
    let p = err_from_is_err_and c.from_residual-in_err-count_call.result c.from_residual-in_err-count_call.ensures.1 in
    let g = c.in_ok-gate.ensures in
    let lt : c.args.page < count (held c.args.self.now) = omega (arith, g.0, c.count.ensures) in
    rw (p.1, p.2) (λ _. record { agrees = tt; means = read_lost (held c.args.self.now) (held c.count_call.new.self) c.args.page c.args.buf.now lt g.1 c.in_err-count_call.field-0.0 c.in_err-count_call.ensures })

pub returns-in_err-shown-clause-does : goal.returns-in_err-shown-clause-does
returns-in_err-shown-clause-does c =
    let p = err_from_is_err_and c.from_residual-in_err-shown.result c.from_residual-in_err-shown.ensures.1 in
    let g = c.in_ok-gate.ensures in
    let lt : c.args.page < count (held c.args.self.now) = omega (arith, g.0, c.count.ensures) in
    let h = rw c.in_err-shown.ensures.ok_part at c.page.ensures in
    rw (p.1, p.2, none_given _ _ _ c.in_err-shown.ensures.ok_part c.in_err-shown.ensures.value) (λ _. record { agrees = tt; means = read_spoiled (held c.args.self.now) (held c.count_call.new.self) c.args.page c.args.buf.now lt g.1 g.2 c.in_ok-count_call.ensures h })

pub copy_from_slice-requires : goal.copy_from_slice-requires
copy_from_slice-requires c =
    let g = c.in_ok-gate.ensures in
    let lt : c.args.page < count (held c.args.self.now) = omega (arith, g.0, c.count.ensures) in
    let h = rw c.in_ok-shown.ensures.ok_part at c.page.ensures in
    shown_fits (held c.args.self.now) (held c.count_call.new.self) c.args.page c.args.buf.now lt g.1 g.2 c.in_ok-count_call.ensures c.in_ok-shown.shown.now h

pub returns-clause-does : goal.returns-clause-does
returns-clause-does c =
    let g = c.in_ok-gate.ensures in
    let lt : c.args.page < count (held c.args.self.now) = omega (arith, g.0, c.count.ensures) in
    let h = rw (c.in_ok-shown.ensures.ok_part, ← c.copy_from_slice.ensures.after) at c.page.ensures in
    λ _. record { agrees = tt; means = read_done (held c.args.self.now) (held c.count_call.new.self) c.args.page c.args.buf.now lt g.1 g.2 c.in_ok-count_call.ensures _ h }
