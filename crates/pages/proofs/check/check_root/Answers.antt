use Rattle.std.proofs.Common.{◌∙◌, arith}
use Rattle.std.proofs.lemmas.Option.{MatchOption-at_some, MatchOption-at_none}
use Rattle.pages.proofs.Checking.{one_from, one_not, one_spoiled, one_unlike}
use Rattle.pages.proofs.check.check_root.Goals as goal

pub returns-in_default-clause-looks : goal.returns-in_default-clause-looks
returns-in_default-clause-looks g c = λ h a.
    let q = c.in_ok-page.ensures (omega (arith, h)) a in
    (q.0, λ n f w. one_spoiled g.K.KeyRule.rule n f (MatchOption-at_none _ _ c.in_default.is (q.1 n f w)))

pub returns-in_default-read_root-clause-looks : goal.returns-in_default-read_root-clause-looks
returns-in_default-read_root-clause-looks g c = λ h a.
    let q = c.in_ok-page.ensures (omega (arith, h)) a in
    (q.0, λ n f w. one_unlike g.K.KeyRule.rule n f c.in-Some.page (MatchOption-at_some _ _ c.in-Some.page c.in-Some.is (q.1 n f w)) c.in_default-read_root.ensures)

pub returns-then-not-root_fits-clause-looks : goal.returns-then-not-root_fits-clause-looks
returns-then-not-root_fits-clause-looks g c = λ h a.
    let q = c.in_ok-page.ensures (omega (arith, h)) a in (
      q.0,
      λ n f w.
          one_not g.K.KeyRule.rule n f c.in-Some.page c.in-Some-read_root.found c.kind.result c.page_count-count.result c.kind.ensures (c.page_count-count.ensures ∙ w.count)
          (MatchOption-at_some _ _ c.in-Some.page c.in-Some.is (q.1 n f w)) c.in-Some-read_root.ensures c.if-not-root_fits.ensures,
    )

pub returns-clause-looks : goal.returns-clause-looks
returns-clause-looks g c = λ h a.
    let q = c.in_ok-page.ensures (omega (arith, h)) a in (
      q.0,
      λ n f w.
          one_from g.K.KeyRule.rule n f c.in-Some.page c.in-Some-read_root.found c.kind.result c.page_count-count.result c.kind.ensures (c.page_count-count.ensures ∙ w.count)
          (MatchOption-at_some _ _ c.in-Some.page c.in-Some.is (q.1 n f w)) c.in-Some-read_root.ensures c.if-not-root_fits.ensures,
    )
