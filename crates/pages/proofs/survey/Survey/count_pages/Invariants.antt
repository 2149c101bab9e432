use Rattle.std.proofs.Common.{◌≡◌, ℕ, ◌+◌, ◌-◌, ◌^◌, ◌<◌, ◌≤◌, List, length}
use Rattle.tree.specs.Loads.{Loads, Splits}
use Rattle.tree.specs.Trees.{Bucket, Falls, number}
use Rattle.tree.proofs.Visits.{Tiles}
use Rattle.tree.specs.Members.{In}
use Rattle.pages.specs.Surveys.{depth_at}
use Rattle.pages.proofs.survey.Survey.count_pages.Given as goal

-- the buckets that are left cover the entries from i on
abbrev pub invariant-loop-i : goal.invariant-loop-i
invariant-loop-i l =
    (l.n ≤ l.i)
    × ((L : Loads) → Splits L → ((i : ℕ) → i < 2 ^ l.self.root.depth → Falls L l.self.root.depth i (depth_at l.self.buckets.now i))
    → (left : List (ℕ × ℕ)) × (l.n + length left ≡ number L) × Tiles l.self.root.depth left l.i (2 ^ l.self.root.depth) × ((b : ℕ × ℕ) → In b left → (b.0 ≤ l.self.root.depth) × Bucket L b.0 b.1))

abbrev pub decreases-loop-i : goal.decreases-loop-i
decreases-loop-i l = 2 ^ l.self.root.depth - l.i
