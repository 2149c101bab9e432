use Rattle.std.proofs.Common.{length, refl, ap, arith, ltb-true}
use Rattle.pages.proofs.Envelopes.{is_bucket_body, bucket_rest}
use Rattle.pages.proofs.bucket.read_bucket.Goals as goal

pub returns-in_default : goal.returns-in_default
returns-in_default g c = λ d rs b f. let l = ap length (is_bucket_body _ _ d rs c.in_ok-body.ensures b) in omega (arith, ltb-true, l)

pub returns-then-not-records_ok : goal.returns-then-not-records_ok
returns-then-not-records_ok g c = λ d rs b f. c.if-not-records_ok.ensures rs (bucket_rest _ _ _ d rs c.in_ok-body.ensures refl b) f
