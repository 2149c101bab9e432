use Rattle.std.proofs.Common.{◌≡◌, length}
use Rattle.crc.specs.Crc32.{register}
use Rattle.crc.proofs.enter.Given as goal

-- What is left to enter gives the register after the whole.
abbrev pub invariant-loop-eight : goal.invariant-loop-eight
invariant-loop-eight l = register l.now l.rest ≡ register l.state l.bytes

abbrev pub decreases-loop-eight : goal.decreases-loop-eight
decreases-loop-eight l = length l.rest
