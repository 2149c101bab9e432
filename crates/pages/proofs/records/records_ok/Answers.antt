use Rattle.std.proofs.Common.{rules, sym, ◌∙◌}
use borrow.Author.Tests.{tests}
use Rattle.pages.proofs.Walks.{tested_all, tested_not, tested_whole}
use Rattle.pages.proofs.records.records_ok.Goals as goal

pub returns-then-all : goal.returns-then-all
returns-then-all g c =
    rw (sym c.new-rest.ensures.left) (tested_whole g.K.KeyRule.rule.valid c.new-rest.result c.all.new.self c.is_empty.result
    (tested_all g.K.KeyRule.rule.valid _ _ (λ x q k. search (rules, tests)) (λ x q k. search (rules, tests)) c.new-rest.result c.all.new.self c.all.result c.all.ensures.ran c.if-all.true) c.is_empty.ensures)

pub returns-else-all : goal.returns-else-all
returns-else-all g c = rw c.if-all.false (λ rs e a.
    tested_not g.K.KeyRule.rule.valid _ _ (λ x q k. search (rules, tests)) (λ x q k. search (rules, tests)) c.new-rest.result c.all.new.self c.all.result c.all.ensures.ran c.if-all.false (rs, c.new-rest.ensures.left ∙ e, a))
