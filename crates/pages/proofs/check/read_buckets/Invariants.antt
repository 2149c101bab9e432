use Rattle.std.proofs.Common.{◌≡◌, ℕ, ◌^◌, ◌<◌, length}
use Rattle.pages.specs.Images.{shows}
use Rattle.pages.specs.Surveys.{at}
use Rattle.pages.specs.Gathered.{AllPaged}
use Rattle.pages.specs.Reads.{Ready}
use Rattle.pages.proofs.Looking.{Held}
use Rattle.pages.proofs.check.read_buckets.Given as goal

abbrev pub invariant-loop-i : goal.invariant-loop-i
invariant-loop-i g l =
    (length l.used ≡ 2 ^ l.layout.root.depth)
    × (((i : ℕ) → i < 2 ^ l.layout.root.depth → at l.layout.entries i < (g.D.Device.meaning l.initial.device).count) → Ready g.D.Device.agrees g.D.Device.meaning g.D.GroupDevice.grouped l.initial.device
    → Held g.D.Device.agrees g.D.Device.meaning g.D.GroupDevice.grouped l.i l.initial.device l.device (λ n f. AllPaged g.K.KeyRule.rule (λ k. shows (f (at l.layout.entries k))) l.layout.root.depth l.used l.i))
