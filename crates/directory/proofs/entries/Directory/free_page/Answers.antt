use Rattle.std.proofs.Common.{ℕ, rules}
use borrow.Author.Tests.{tests}
use Rattle.std.proofs.lemmas.Iterator.{first_from_Range}
use Rattle.directory.specs.Names.{at, Named, Free}
use Rattle.directory.proofs.Ranges.{first_free}
use Rattle.directory.proofs.entries.Directory.free_page.Goals as goal

pub returns : goal.returns
returns c =
    let w = c.args.self.now.depth in
    let E : ℕ → ℕ = at c.args.self.now.entries in
    first_free w c.args.limit E c.first_page-first.result c.find.result c.first_page-first.ensures
    (first_from_Range _ _ _ c.find.result (Free w E) (Named w E) c.find.ensures.ran (λ x q k. search (rules, tests)) (λ x q k. search (rules, tests)))
