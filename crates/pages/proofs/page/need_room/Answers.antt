use Rattle.std.proofs.Common.{arith}
use Rattle.layout.proofs.Envelopes.{envelope_starts}
use Rattle.pages.proofs.page.need_room.Goals as goal

pub returns-then-more-saturating_sub : goal.returns-then-more-saturating_sub
returns-then-more-saturating_sub c = λ body v. omega (arith, (envelope_starts c.args.page.now body v).2, v.fits)

pub returns : goal.returns
returns c = λ body v. omega (arith, (envelope_starts c.args.page.now body v).2, v.fits)
