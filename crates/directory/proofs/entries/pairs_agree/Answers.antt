use Rattle.std.proofs.Common.{◌≡◌, ℕ, ◌+◌, ◌*◌, refl, rules, arith}
use borrow.Author.Tests.{tests}
use Rattle.std.proofs.lemmas.Iterator.{cases_from_all, YieldsList-from_range}
use Rattle.directory.specs.Names.{at, Differ}
use Rattle.directory.proofs.Ranges.{range_told}
use Rattle.directory.proofs.entries.pairs_agree.Goals as goal

pub returns : goal.returns
returns c =
    let E : ℕ → ℕ = at c.args.entries.now in
    let P : ℕ → Type 0 = λ i. E (2 * i) ≡ E (2 * i + 1) in
    range_told P (Differ E) c.all.result c.args.pairs
    (cases_from_all _ _ _ P (Differ E) c.all.ensures.ran (YieldsList-from_range 0 c.args.pairs c.args.pairs refl (omega arith)) (λ x q k. search (rules, tests)) (λ x q k. search (rules, tests)))
