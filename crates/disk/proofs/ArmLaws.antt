-- The letters of an arming.
use Rattle.std.proofs.Common.{◌≡◌, ℕ, ◌+◌, ◌<◌, ◌≤◌, true, false, ◌&&◌, List, length, get_or, drop, refl, sym, ap, ◌∙◌, arith}
use Rattle.std.proofs.lemmas.List.{at_drop_more, at_drop_all}
use Rattle.std.proofs.lemmas.Grind.{common_steps}
use Rattle.disk.specs.declared.arming.ArmFault.{ArmFault}
use Rattle.disk.specs.declared.arming.ArmFault.TheVariants.{NotAsStated}
use Rattle.disk.specs.Arm.{all_letters, arm_number, is_letter, stated}

module _ (ls : List ℕ) (i : ℕ) (h : i < length ls) (inv : all_letters (drop i ls) ≡ all_letters ls) where
  step : all_letters (drop i ls) ≡ (is_letter (get_or ls i 0) && all_letters (drop (i + 1) ls))
  step = at_drop_more all_letters ls i 0 h

  pub letters_not : is_letter (get_or ls i 0) ≡ false → all_letters ls ≡ false
  letters_not e = sym inv ∙ (step ∙ ap (λ b. b && all_letters (drop (i + 1) ls)) e)

pub letters_all : (ls : List ℕ) (i : ℕ) → length ls ≤ i → all_letters (drop i ls) ≡ all_letters ls → true ≡ all_letters ls
letters_all ls i h inv = sym (at_drop_all all_letters ls i h) ∙ inv

-- each refusal of an arming has the number 8
pub eight : (e : ArmFault) → arm_number e ≡ 8
eight NotAsStated = refl

pub unknown_letter : (ls : List ℕ) (t : ℕ) → all_letters ls ≡ false → stated ls t ≡ false
unfolding stated
unknown_letter ls t e = grind (arith, common_steps)
