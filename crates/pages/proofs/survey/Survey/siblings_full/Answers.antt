use Rattle.std.proofs.Common.{ℕ, ◌^◌, refl, rules, arith}
use borrow.Author.Tests.{tests}
use Rattle.std.proofs.lemmas.Iterator.{cases_from_all, YieldsList-from_range}
use Rattle.pages.specs.Surveys.{depth_at, bytes_at, SiblingFull}
use Rattle.pages.proofs.Entries.{range_all}
use Rattle.pages.proofs.survey.Survey.siblings_full.Goals as goal

pub returns : goal.returns
returns c =
    let P : ℕ → Type 0 = λ i. SiblingFull (depth_at c.args.self.now.buckets.now) (bytes_at c.args.self.now.buckets.now) c.args.self.now.root.depth i in
    range_all P c.all.result _ (2 ^ c.args.self.now.root.depth) (omega (arith, c.args.self.now.buckets_wide))
    (cases_from_all _ _ _ P (λ i. P i → ⊥) c.all.ensures.ran (YieldsList-from_range 0 _ _ refl refl) (λ x q k. search (rules, tests)) (λ x q k. search (rules, tests)))
