use Rattle.std.proofs.Common.{◌≡◌, true, [], length, Ok}
use Rattle.journal.specs.Waiting.{waiting}
use Rattle.journal.specs.Sending.{Makes}
use Rattle.journal.specs.Recovery.{Awake, LoadedTo}
use Rattle.journal.proofs.recovery.load.Given as goal

abbrev pub invariant-loop-j : goal.invariant-loop-j
invariant-loop-j g l =
    (g.D.Device.agrees l.initial.below → g.D.Device.agrees l.below)
    × (g.D.Device.agrees l.initial.below → (g.D.Device.meaning l.initial.below).runs ≡ true → Makes g.D.Device.meaning [] (Ok tt) l.initial.below l.below)
    × (g.D.Device.agrees l.initial.below → Awake (g.D.Device.meaning l.initial.below) → LoadedTo l.named.items l.j (waiting l.group) (g.D.Device.meaning l.initial.below) (g.D.Device.meaning l.below))
    × (length (waiting l.group) ≡ l.j)
