use Rattle.std.proofs.Common.{arith, rules}
use Rattle.layout.proofs.Envelopes.{envelope_starts, extended_by}
use Rattle.layout.proofs.extend.Goals as goal
use Rattle.layout.proofs.extend.Goals.{then-n-gt-BODY_SIZE-via-then-n-gt-BODY_SIZE, then-n-gt-BODY_SIZE-via-else-n-gt-BODY_SIZE+then-more-n}

pub returns-then-n-gt-BODY_SIZE : goal.returns-then-n-gt-BODY_SIZE
returns-then-n-gt-BODY_SIZE c = λ body v.
    let s = envelope_starts c.args.page.now body v in (
      elim c.then-n-gt-BODY_SIZE.branch [ then-n-gt-BODY_SIZE-via-then-n-gt-BODY_SIZE w ↦ omega (arith, s.2, v.fits, w.if-n-gt-BODY_SIZE.true, c.length_of-n.ensures) | then-n-gt-BODY_SIZE-via-else-n-gt-BODY_SIZE+then-more-n w ↦ omega (arith, s.2, v.fits, w.if-more-n.true, c.length_of-n.ensures) ],
      v.is,
    )

pub returns : goal.returns
returns c = λ body v.
    extended_by c.args.page.now c.args.more.now body c.length_of-n.result _ c.copy_from_slice.new.self _ _
    c.length_of-n.ensures (omega arith) c.copy_from_slice.ensures.after (search rules) (search rules) (omega (arith, c.if-n-gt-BODY_SIZE.false, c.if-more-n.false)) v
