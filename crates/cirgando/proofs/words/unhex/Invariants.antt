use Rattle.std.proofs.Common.{◌≡◌, ◌++◌, length, vec_items}
use Rattle.cirgando.specs.Hexes.{Hex, written}
use Rattle.cirgando.proofs.words.unhex.Given as goal

-- What is left is in hex where the whole is, and writes the rest of its bytes.
abbrev pub invariant-loop-rest : goal.invariant-loop-rest
invariant-loop-rest l = (Hex l.rest → Hex l.digits) × (Hex l.digits → Hex l.rest) × (vec_items l.out ++ written l.rest ≡ written l.digits)

abbrev pub decreases-loop-rest : goal.decreases-loop-rest
decreases-loop-rest l = length l.rest
