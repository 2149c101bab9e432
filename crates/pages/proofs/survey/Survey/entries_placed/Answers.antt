use Rattle.std.proofs.Common.{ℕ, ◌^◌, refl, rules, arith}
use borrow.Author.Tests.{tests}
use Rattle.std.proofs.lemmas.Iterator.{cases_from_all, YieldsList-from_range}
use Rattle.pages.specs.Surveys.{at, depth_at, EntryPlaced}
use Rattle.pages.proofs.Entries.{range_all}
use Rattle.pages.proofs.survey.Survey.entries_placed.Goals as goal

pub returns : goal.returns
returns c =
    let P : ℕ → Type 0 = λ i. EntryPlaced (at c.args.self.now.entries.now) (depth_at c.args.self.now.buckets.now) c.args.self.now.root.depth i in
    range_all P c.all.result _ (2 ^ c.args.self.now.root.depth) (omega (arith, c.args.self.now.entries_wide))
    (cases_from_all _ _ _ P (λ i. P i → ⊥) c.all.ensures.ran (YieldsList-from_range 0 _ _ refl refl) (λ x q k. search (rules, tests)) (λ x q k. search (rules, tests)))
