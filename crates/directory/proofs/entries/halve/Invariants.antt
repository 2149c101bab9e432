use Rattle.std.proofs.Common.{◌≡◌, ◌*◌, length}
use Rattle.directory.specs.Names.{at}
use Rattle.directory.proofs.Filling.{Filled}
use Rattle.directory.proofs.entries.halve.Given as goal

abbrev pub invariant-loop-pair : goal.invariant-loop-pair
invariant-loop-pair l = Filled l.entries l.initial.entries (λ k. at l.initial.entries (2 * k)) l.pair × (length l.entries ≡ 256)
