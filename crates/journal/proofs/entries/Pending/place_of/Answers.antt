use Rattle.std.proofs.Common.{◌≤◌, eqb, length, ap, ◌∙◌, arith}
use Rattle.std.specs.List.{position}
use Rattle.journal.proofs.Joined.{joined_place}
use Rattle.journal.proofs.entries.Pending.place_of.Goals as goal

pub returns : goal.returns
returns c =
    let s = c.args.self.now in
    let p = c.args.page in
    let few : length s.pages.items ≤ length s.bytes = let e = ap length c.deref.ensures.0 in let f = c.deref.ensures.1 in omega arith in
    c.first_place.ensures ∙ ap (position (λ q. eqb q p)) c.deref.ensures.0 ∙ joined_place s.pages.items s.bytes p few
