use Rattle.std.proofs.Common.{arith, ltb-false, ltb-true}
use Rattle.pages.proofs.Envelopes.{root_enveloped, root_ten, root_read}
use Rattle.pages.proofs.root.read_root.Goals as goal

pub returns-in_err-body : goal.returns-in_err-body
returns-in_err-body c = rw c.from_residual.ensures (λ x e. c.in_err-body.ensures _ (root_enveloped _ x e))

pub returns-in_default : goal.returns-in_default
returns-in_default c = λ x e. let l = root_ten _ _ x c.in_ok-body.ensures e in omega (arith, ltb-true, l)

pub returns-in_default-2 : goal.returns-in_default-2
returns-in_default-2 c = λ x e. let l = root_ten _ _ x c.in_ok-body.ensures e in omega (arith, ltb-true, ltb-false, l)

pub returns : goal.returns
returns c = root_read _ c.in_ok-body.body.now _ _ _ c.in_ok-body.ensures (omega (arith, ltb-true, ltb-false)) (λ i. omega (arith, c.type_inv.page i)) c.from_be_bytes-limit.ensures c.from_be_bytes-used.ensures c.from_be_bytes-records.ensures
