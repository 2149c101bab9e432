use Rattle.std.proofs.Common.{◌≤◌, length, sym, ap, ◌∙◌, arith}
use Rattle.journal.proofs.Joined.{joined_pages}
use Rattle.journal.proofs.entries.Pending.pages.Goals as goal

pub returns-clause-items : goal.returns-clause-items
returns-clause-items c =
    let s = c.args.self.now in
    let few : length s.pages.items ≤ length s.bytes = let e = ap length c.as_slice.ensures.value in let f = c.as_slice.ensures.fits in omega arith in
    c.as_slice.ensures.value ∙ sym (joined_pages s.pages.items s.bytes few)
