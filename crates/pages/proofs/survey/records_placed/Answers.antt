use Rattle.std.proofs.Common.{sym, ap, ◌∙◌, arith}
use Rattle.std.proofs.lemmas.Option.{MatchOption-at_some, MatchOption-at_none}
use Rattle.tree.specs.Prefix.{pre}
use Rattle.pages.specs.Records.{viewed}
use Rattle.pages.proofs.Answering.{there, not_there}
use Rattle.pages.proofs.Walks.{shorter}
use Rattle.pages.proofs.Placing.{placing_more, placing_all, placing_wrong, placing_twice}
use Rattle.pages.proofs.survey.records_placed.Goals as goal

pub returns-then-prefix : goal.returns-then-prefix
returns-then-prefix g c =
    placing_wrong g.K.KeyRule.rule c.args.depth c.args.prefix c.args.bytes.now _ _ _ c.in-Some.ensures (λ z. c.if-prefix.true (c.prefix.ensures ∙ ap (λ v. pre 32 v c.args.depth) c.hash.ensures ∙ z)) c.loop-record.invariant

pub loop-record-smaller : goal.loop-record-smaller
loop-record-smaller g c = omega (arith, shorter _ _ _ c.in-Some.ensures)

pub loop-record-preserved : goal.loop-record-preserved
loop-record-preserved g c = placing_more g.K.KeyRule.rule c.args.depth c.args.prefix c.args.bytes.now _ _ _ c.in-Some.ensures (sym (c.prefix.ensures ∙ ap (λ v. pre 32 v c.args.depth) c.hash.ensures) ∙ c.if-prefix.false) (λ rest e. MatchOption-at_none _ _ (not_there c.find.result (sym c.is_some.ensures ∙ c.if-is_some.false)) (c.find.ensures rest e)) c.loop-record.invariant

pub returns : goal.returns
returns g c = placing_all g.K.KeyRule.rule c.args.depth c.args.prefix c.args.bytes.now c.loop-record.left.now c.in_default.ensures c.loop-record.invariant

pub returns-then-is_some : goal.returns-then-is_some
returns-then-is_some g c =
    let t = there c.find.result (sym c.is_some.ensures ∙ c.if-is_some.true) in
    placing_twice g.K.KeyRule.rule c.args.depth c.args.prefix c.args.bytes.now _ _ _ (viewed t.0.1) t.0.0 c.in-Some.ensures (λ rest e. MatchOption-at_some _ _ t.0 t.1 (c.find.ensures rest e)) c.loop-record.invariant
