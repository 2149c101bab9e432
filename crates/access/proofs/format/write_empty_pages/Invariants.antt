use Rattle.std.proofs.Common.{◌≡◌, ℕ, ◌+◌, ◌<◌, ◌≤◌, length}
use Rattle.device.specs.Meaning.{bytes}
use Rattle.layout.specs.Envelope.{envelope}
use Rattle.pages.specs.Formats.{empty_body}
use Rattle.pages.specs.Reads.{Ready}
use Rattle.access.specs.Moves.{Moved}
use Rattle.access.proofs.format.write_empty_pages.Given as goal

abbrev pub invariant-loop-i : goal.invariant-loop-i
invariant-loop-i g l =
    6 ≤ (g.D.Device.meaning l.initial.device).count → length (g.D.Device.meaning l.initial.device).waits + 6 ≤ 64 → Ready g.D.Device.agrees g.D.Device.meaning g.D.GroupDevice.grouped l.initial.device
    → Moved g.D.Device.agrees g.D.Device.meaning g.D.GroupDevice.grouped l.i (λ j. j < 6) l.initial.device l.device
    × ((j : ℕ) → j < l.i → (g.D.Device.meaning l.device).shown j ≡ bytes (envelope (empty_body g.K.KeyRule.rule.kind l.limit j)))
