use Rattle.std.proofs.Common.{◌≡◌, true, take, Ok}
use Rattle.journal.specs.Waiting.{waiting}
use Rattle.journal.specs.Sending.{Makes, placed}
use Rattle.journal.specs.Writing.{Ready, Wrote}
use Rattle.journal.proofs.steps.write_entries.Given as goal

abbrev pub invariant-loop-j : goal.invariant-loop-j
invariant-loop-j g l =
    (g.D.Device.agrees l.initial.below → g.D.Device.agrees l.below)
    × (g.D.Device.agrees l.initial.below → (g.D.Device.meaning l.initial.below).runs ≡ true → Makes g.D.Device.meaning (placed l.area 0 (take l.j (waiting l.entries))) (Ok tt) l.initial.below l.below)
    × (g.D.Device.agrees l.initial.below → Ready l.area (waiting l.entries) (g.D.Device.meaning l.initial.below) → Wrote l.area (waiting l.entries) l.j (g.D.Device.meaning l.initial.below) (g.D.Device.meaning l.below))
