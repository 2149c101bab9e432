use Rattle.std.proofs.Common.{◌≡◌, true, false, refl, ◌∙◌, arith}
use Rattle.std.proofs.lemmas.Grind.{common_steps}
use Rattle.std.proofs.lemmas.List.{take_all}
use Rattle.std.proofs.lemmas.Result.{err_from_is_err_and}
use Rattle.disk.specs.Arm.{all_letters, stated}
use Rattle.disk.proofs.ArmLaws.{letters_not, letters_all, eight, unknown_letter}
use Rattle.disk.proofs.arming.Arming.new.Goals as goal
use Rattle.disk.proofs.arming.Arming.new.Goals.{then-not-contains-via-then-not-contains, then-not-contains-via-else-not-contains+then-not-contains-2}

pub returns-then-not-contains : goal.returns-then-not-contains
unfolding stated
returns-then-not-contains c =
    (refl, elim c.then-not-contains.branch [ then-not-contains-via-then-not-contains w ↦ grind (arith, common_steps) | then-not-contains-via-else-not-contains+then-not-contains-2 w ↦ grind (arith, common_steps) ])

pub returns-in_err-try_from : goal.returns-in_err-try_from
returns-in_err-try_from c =
    let p = err_from_is_err_and c.from_residual.result c.from_residual.ensures.1 in
    let e : all_letters c.args.letters.now ≡ false = letters_not c.args.letters.now c.loop-x.x-index c.loop-x-test.true c.loop-x.invariant.rest c.in_err-try_from.ensures in
    rw (p.1, p.2) (eight _, unknown_letter c.args.letters.now c.args.t e)

pub returns : goal.returns
unfolding stated
returns c =
    let e : true ≡ all_letters c.args.letters.now = letters_all c.args.letters.now c.loop-x.x-index c.loop-x-test.false c.loop-x.invariant.rest in
    (grind (arith, common_steps), refl, c.loop-x.invariant.known ∙ take_all c.loop-x.x-index c.args.letters.now c.loop-x-test.false, refl)
