use Rattle.std.proofs.Common.{refl, ⊎_elim, arith, ltb-true}
use Rattle.layout.proofs.Envelopes.{envelope_starts, body_read, body_not}
use Rattle.layout.proofs.body_of.Goals as goal

pub returns-in_default : goal.returns-in_default
returns-in_default c = λ body v. omega (arith, ltb-true, (envelope_starts c.args.page.now body v).0)

pub returns-then-version-ne1 : goal.returns-then-version-ne1
returns-then-version-ne1 c = λ body v.
    let s = envelope_starts c.args.page.now body v in
    ⊎_elim (λ h. h s.1) (λ k. ⊎_elim (λ h. h.1 s.0) (λ h. omega (arith, h.2, s.2, v.fits, c.length_of-n.ensures)) k) c.then-version-ne1.either

pub returns-then-all_zero : goal.returns-then-all_zero
returns-then-all_zero c =
    body_read c.args.page.now c.length_of-n.result (omega arith) (omega arith) c.length_of-n.ensures (omega (arith, c.type_inv.page 2)) (omega arith) _ _ _ refl c.split_at.ensures.front
    c.split_at.ensures.back c.if-all_zero.ensures

pub returns-else-all_zero : goal.returns-else-all_zero
returns-else-all_zero c = body_not c.args.page.now c.length_of-n.result c.length_of-n.ensures _ _ refl c.split_at.ensures.back c.if-all_zero.ensures
