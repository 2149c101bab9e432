use Rattle.std.proofs.Common.{refl}
use Rattle.crc.specs.Crc32.{byte_in}
use Rattle.tree.specs.Loads.{load}
use Rattle.tree.specs.Trees.{tree, longest}
use Rattle.examples.proofs.check_value.Goals as goal

pub returns : goal.returns
unfolding byte_in load tree longest
returns c = record {
  value = c.check_of_digits.ensures;
  examples = ((refl, refl, refl), (refl, refl, refl, refl, refl, refl), (refl, refl), (refl, refl, refl), (refl, refl, refl, refl));
}
