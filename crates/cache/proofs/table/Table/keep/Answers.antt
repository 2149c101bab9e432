use Rattle.std.proofs.Common.{◌≡◌, ◌<◌, length, refl, ap, ◌∙◌, arith}
use Rattle.std.proofs.lemmas.Grind.{common_steps}
use Rattle.std.proofs.lemmas.Option.{slice_get_within}
use Rattle.arrayvec.specs.ArrayVec.{ArrayVec}
use Rattle.cache.specs.declared.table.Kept.{Kept}
use Rattle.cache.specs.Slots.{stays, fills, ousts}
use Rattle.cache.proofs.SlotLaws.{found, not_found, put_written, put_push}
use Rattle.cache.proofs.table.Table.keep.Goals as goal

pub returns-in-Some : goal.returns-in-Some
returns-in-Some c =
    let s = c.args.self.now.slots.items in
    let a = found s c.args.page c.in-Some.i c.in-Some.ensures in
    (c.in-Some.i, stays _ a refl, rw c.copy_from_slice.ensures.after (put_written s _ c.in-Some.i _ c.deref_mut.ensures.value (slice_get_within s c.in-Some.i _ a.holds)))

pub returns-then-not-is_full : goal.returns-then-not-is_full
returns-then-not-is_full c =
    let s = c.args.self.now.slots.items in
    let room : length s < 8 = grind (arith, common_steps) in
    (length s, fills (not_found s c.args.page c.in_default.ensures) refl room refl, rw c.copy_from_slice.ensures.after at (c.push.ensures.items ∙ put_push s _))

pub returns-else-not-is_full : goal.returns-else-not-is_full
returns-else-not-is_full c =
    let s = c.args.self.now.slots.items in
    let full : length s ≡ 8 = grind (arith, common_steps) in
    let g = c.give_up-i.ensures in
    let i = c.give_up-i.result in
    let lt : i < length s = omega (arith, g.slot) in
    let same = c.deref_mut-else-not-is_full.ensures.value ∙ ap (λ (v : ArrayVec Kept). v.items) g.slots in
    (i, ousts (not_found s c.args.page c.in_default.ensures) full g.slot g.next, rw (g.slots, c.copy_from_slice.ensures.after) (put_written s _ i _ same lt))
