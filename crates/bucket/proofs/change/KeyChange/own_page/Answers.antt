use Rattle.std.proofs.Common.{ℕ, subst}
use Rattle.std.proofs.lemmas.Result.{err_from_is_err_and}
use Rattle.pages.specs.Records.{BucketIs}
use Rattle.bucket.specs.Sifts.{sift}
use Rattle.bucket.proofs.Filling.{own_full}
use Rattle.bucket.proofs.change.KeyChange.own_page.Goals as goal

pub returns-in_err-add_record : goal.returns-in_err-add_record
returns-in_err-add_record g c =
    let p = err_from_is_err_and c.from_residual.result c.from_residual.ensures.1 in
    rw p.1 (λ rs e short.
    let b = subst (λ (p : ℕ). BucketIs c.sifted_page-page.result c.args.bits (sift g.K.KeyRule.rule c.args.self.key.now c.args.bits p rs)) c.prefix.ensures (c.sifted_page-page.ensures rs e short) in
    own_full c.args.new c.in-Some.record c.in-Some.is _ _ c.args.bits _ b c.in_err-add_record.ensures)
