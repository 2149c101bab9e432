use Rattle.std.proofs.Common.{◌≡◌, ◌*◌, ◌≤◌}
use Rattle.pages.specs.Surveys.{depth_at, count_at, counted}
use Rattle.pages.proofs.survey.Survey.count_records.Given as goal

abbrev pub invariant-loop-i : goal.invariant-loop-i
invariant-loop-i l = (l.n ≡ counted (depth_at l.self.buckets.now) (count_at l.self.buckets.now) l.self.root.depth l.i) × (l.n ≤ 65535 * l.i)
