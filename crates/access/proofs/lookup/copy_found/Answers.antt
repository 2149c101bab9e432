use Rattle.std.proofs.Common.{ℕ, List, ◌++◌, length, drop, refl, ap, arith}
use Rattle.tree.proofs.Mapping.{all_of}
use Rattle.pages.specs.Records.{Fine, viewed}
use Rattle.access.proofs.Seeking.{bucket_bytes, found_in, fine_short, fine_listed, class_letter}
use Rattle.access.proofs.lookup.copy_found.Goals as goal

pub returns-in_err-stored : goal.returns-in_err-stored
returns-in_err-stored g c =
    rw c.from_residual-in_err-stored.ensures
    (λ d rs b fine l. (c.in_err-stored.ensures rs (bucket_bytes g.K.KeyRule.rule.valid c.args.page.now c.in_ok-bucket.bucket.records.now _ d rs c.in_ok-bucket.ensures b), refl))

pub returns-in_default : goal.returns-in_default
returns-in_default g c = λ d rs b fine l.
    let q = c.in_ok-stored.ensures rs (bucket_bytes g.K.KeyRule.rule.valid c.args.page.now c.in_ok-bucket.bucket.records.now _ d rs c.in_ok-bucket.ensures b) in
    let x = viewed c.in_ok-stored.stored in
    absurd (fine_listed g.K.KeyRule.rule.valid x (all_of (Fine g.K.KeyRule.rule.valid) x rs fine (found_in g.K.KeyRule.rule.same c.args.key.now rs _ x q)) c.in_default.ensures)

pub returns-then-n-buf : goal.returns-then-n-buf
returns-then-n-buf g c = λ d rs b fine l.
    let q = c.in_ok-stored.ensures rs (bucket_bytes g.K.KeyRule.rule.valid c.args.page.now c.in_ok-bucket.bucket.records.now _ d rs c.in_ok-bucket.ensures b) in
    let x = viewed c.in_ok-stored.stored in
    let short = fine_short g.K.KeyRule.rule.valid x (all_of (Fine g.K.KeyRule.rule.valid) x rs fine (found_in g.K.KeyRule.rule.same c.args.key.now rs _ x q)) in
    absurd (omega (arith, short, l, c.if-n-buf.true))

pub returns : goal.returns
returns g c = λ d rs b fine l.
    let q = c.in_ok-stored.ensures rs (bucket_bytes g.K.KeyRule.rule.valid c.args.page.now c.in_ok-bucket.bucket.records.now _ d rs c.in_ok-bucket.ensures b) in
    let x = viewed c.in_ok-stored.stored in (
      x,
      found_in g.K.KeyRule.rule.same c.args.key.now rs _ x q,
      q.hit,
      ap (λ (z : ℕ). record { letter = z; last_day = c.in_ok-stored.stored.day; length = length c.in_ok-stored.stored.value.now }) (class_letter _ c.in-Ok.class c.row.result c.in-Ok.ensures c.row.ensures),
      ap (λ (ys : List ℕ). ys ++ drop (length c.in_ok-stored.stored.value.now) c.args.buf.now) c.copy_from_slice.ensures.after,
    )
