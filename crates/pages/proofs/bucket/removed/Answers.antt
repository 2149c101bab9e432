use Rattle.std.proofs.Common.{arith}
use Rattle.pages.proofs.Changed.{three_parts, back_part, remove_made}
use Rattle.pages.proofs.bucket.removed.Goals as goal

pub returns-in_err-back-clause-records : goal.returns-in_err-back-clause-records
returns-in_err-back-clause-records c = rw c.from_residual-in_err-back.ensures (λ before x after e short es el.
    omega (arith, c.in_err-back.ensures.lookup.0, c.in_ok-get.ensures.lookup.0, (three_parts c.args.bytes.now before x after e).1))

pub returns-clause-records : goal.returns-clause-records
returns-clause-records c = rw c.ok.ensures.value (λ before x after e short es el.
    remove_made c.bucket_page.result c.args.depth c.args.bytes.now _ _ c.args.start c.args.len before x after c.in_ok-front.ensures.lookup.0.2
    (back_part c.args.bytes.now _ _ c.args.start c.args.len c.in_ok-get.ensures.lookup.0.2 c.in_ok-back.ensures.lookup.0.2) c.bucket_page.ensures e short es el)
