use Rattle.std.proofs.Common.{◌≡◌, ◌<◌, length}
use Rattle.pages.specs.Reads.{Ready}
use Rattle.pages.proofs.Checking.{PagesRead}
use Rattle.pages.proofs.Looking.{Held}
use Rattle.pages.proofs.check.read_directory.Given as goal

abbrev pub invariant-loop-j : goal.invariant-loop-j
invariant-loop-j g l =
    (length l.slot-items ≡ 4)
    × (5 < (g.D.Device.meaning l.initial.device).count → Ready g.D.Device.agrees g.D.Device.meaning g.D.GroupDevice.grouped l.initial.device → Held g.D.Device.agrees g.D.Device.meaning g.D.GroupDevice.grouped l.j l.initial.device l.device (λ n f. PagesRead f l.j l.slot-items))
