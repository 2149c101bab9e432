use Rattle.std.proofs.Common.{ℕ, List, length, sym, ap, subst, arith}
use Rattle.std.proofs.lemmas.Option.{MatchOption-at_some, MatchOption-at_none}
use Rattle.pages.specs.Images.{shows}
use Rattle.pages.specs.Records.{BucketIs}
use Rattle.pages.specs.Surveys.{at}
use Rattle.pages.proofs.Gathering.{spoiled_bucket, few_records}
use Rattle.pages.proofs.check.read_named.Goals as goal

pub returns-in_default : goal.returns-in_default
returns-in_default g c = λ h a.
    let q = (rw c.from.ensures at c.in_ok-page.ensures) h a in
    (q.0, λ n f w d rs b x. spoiled_bucket f (at c.args.layout.now.entries c.args.i) d rs (MatchOption-at_none _ _ c.in_default.is (q.1 n f w)) b)

pub returns-in_default-read_bucket : goal.returns-in_default-read_bucket
returns-in_default-read_bucket g c = λ h a.
    let q = (rw c.from.ensures at c.in_ok-page.ensures) h a in
    (q.0, λ n f w d rs b x. c.in_default-read_bucket.ensures d rs (subst (λ (p : List ℕ). BucketIs p d rs) (ap shows (MatchOption-at_some _ _ c.in-Some.page c.in-Some.is (q.1 n f w))) b) x)

pub overflow_cast-result-2 : goal.overflow_cast-result-2
overflow_cast-result-2 g c =
    let r = c.in-Some-read_bucket.ensures in
    omega (arith, few_records _ _ r.0 r.1, c.count_records-count.ensures r.0 r.2)

pub returns : goal.returns
returns g c = λ h a.
    let q = (rw c.from.ensures at c.in_ok-page.ensures) h a in
    let r = c.in-Some-read_bucket.ensures in (
      q.0,
      λ n f w.
          let e = ap shows (MatchOption-at_some _ _ c.in-Some.page c.in-Some.is (q.1 n f w)) in
          record {
            recs = r.0;
            is = subst (λ (p : List ℕ). BucketIs p c.in-Some-read_bucket.found.depth r.0) (sym e) r.1;
            fine = r.3;
            bytes = ap length r.2;
            count = c.count_records-count.ensures r.0 r.2;
            placed = c.bucket_placed-placed.ensures r.0 r.2;
          },
    )
