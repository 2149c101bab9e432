use Rattle.std.proofs.Common.{sym, ap, ◌∙◌}
use Rattle.std.proofs.lemmas.Bool.{MatchBool-at_true, MatchBool-at_false}
use Rattle.std.proofs.lemmas.Option.{MatchOption-at_some, MatchOption-at_none}
use Rattle.journal.specs.Header.{once}
use Rattle.journal.proofs.Parsing.{parsed}
use Rattle.journal.proofs.header.parse_header.Goals as goal
use Rattle.journal.proofs.header.parse_header.Goals.{in_default-via-in-Some+else-named_once, in_default-via-in_default}

pub returns-in-Some : goal.returns-in-Some
returns-in-Some c =
    let p = parsed c.args.count c.args.page.now c.told-page c.body_of.result c.and_then.result c.body_of.ensures c.and_then.ensures in
    MatchBool-at_true _ _ (ap (once c.args.count) (sym c.deref.ensures.0) ∙ sym c.named_once.ensures ∙ c.if-named_once.true) (MatchOption-at_some _ _ c.in-Some.found c.in-Some.is p)

pub returns-in_default : goal.returns-in_default
returns-in_default c =
    let p = parsed c.args.count c.args.page.now c.told-page c.body_of.result c.and_then.result c.body_of.ensures c.and_then.ensures in
    c.new.ensures ∙ elim c.in_default.branch [
      | in_default-via-in-Some+else-named_once w ↦
          MatchBool-at_false _ _ (ap (once c.args.count) (sym w.deref.ensures.0) ∙ sym w.named_once.ensures ∙ w.if-named_once.false) (MatchOption-at_some _ _ w.in-Some.found w.in-Some.is p)
      | in_default-via-in_default w ↦ MatchOption-at_none _ _ w.in_default.is p
    ]
