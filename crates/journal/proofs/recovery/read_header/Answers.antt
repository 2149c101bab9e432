use Rattle.std.proofs.lemmas.Result.{err_from_is_err_and}
use Rattle.journal.proofs.recovery.read_header.Goals as goal

pub returns-in_err-page-clause-makes : goal.returns-in_err-page-clause-makes
returns-in_err-page-clause-makes g c =
    let p = err_from_is_err_and c.from_residual.result c.from_residual.ensures.1 in
    λ h t. rw (p.1, p.2) (c.in_err-page.ensures.makes h t)
