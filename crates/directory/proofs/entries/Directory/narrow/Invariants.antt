use Rattle.std.proofs.Common.{◌≡◌}
use Rattle.directory.specs.Names.{at}
use Rattle.directory.specs.Changes.{NarrowedTo}
use Rattle.directory.proofs.entries.Directory.narrow.Given as goal

abbrev pub invariant-loop-bits : goal.invariant-loop-bits
invariant-loop-bits l = record { deep : l.self.depth ≡ l.bits; narrowed : NarrowedTo l.fn.self.depth l.bits (at l.fn.self.entries) (at l.self.entries) }
