use Rattle.std.proofs.Common.{◌≡◌, length}
use Rattle.directory.specs.Names.{at, assigned}
use Rattle.directory.proofs.Filling.{Filled}
use Rattle.directory.proofs.entries.assign_used.Given as goal

abbrev pub invariant-loop-i : goal.invariant-loop-i
invariant-loop-i l = Filled l.used l.initial.used (assigned l.depth l.bits l.prefix l.page (at l.initial.used)) l.i × (length l.used ≡ length l.initial.used)
