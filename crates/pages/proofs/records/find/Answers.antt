use Rattle.std.proofs.Common.{sym, ◌∙◌, rules}
use borrow.Author.Tests.{tests}
use Rattle.pages.proofs.Walks.{found_first}
use Rattle.pages.proofs.records.find.Goals as goal

pub returns : goal.returns
returns g c = λ rs e.
    found_first g.K.KeyRule.rule.same c.args.key.now _ _ (λ x q k. search (rules, tests)) (λ x q k. search (rules, tests)) c.new.result c.find.new.self c.find.result c.find.ensures.ran (c.new.ensures.left ∙ sym c.new.ensures.all) rs (c.new.ensures.all ∙ e)
