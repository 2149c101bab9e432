use Rattle.std.proofs.Common.{refl, arith}
use Rattle.std.proofs.lemmas.Grind.{common_steps}
use Rattle.disk.specs.Raw.{torn}
use Rattle.disk.proofs.RawLaws.{mix_is}
use Rattle.disk.proofs.raw.torn.Goals as goal
use Rattle.disk.proofs.raw.torn.Goals.{else-good-via-then-good+then-ne+else-ne-2, else-good-via-then-good+else-ne, else-good-via-else-good}

pub returns-then-ne-2 : goal.returns-then-ne-2
unfolding torn
returns-then-ne-2 c =
    let m = mix_is c.args.kept c.args.old.now c.args.new.now _ _ c.copy_from_slice.ensures.after refl in
    grind (arith, common_steps)

pub returns : goal.returns
unfolding torn
returns c =
    let m = mix_is c.args.kept c.args.old.now c.args.new.now _ _ c.copy_from_slice.ensures.after refl in
    (elim c.else-good.branch [ else-good-via-then-good+then-ne+else-ne-2 w ↦ grind (arith, common_steps) | else-good-via-then-good+else-ne w ↦ grind (arith, common_steps) | else-good-via-else-good w ↦ grind (arith, common_steps) ])
