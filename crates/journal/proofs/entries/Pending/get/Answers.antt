use Rattle.std.proofs.Common.{◌≡◌, Some, None, sym, ap, ◌∙◌}
use Rattle.std.specs.Option.{option_map}
use Rattle.journal.specs.Waiting.{waiting, place}
use Rattle.journal.proofs.Helds.{placed}
use Rattle.journal.proofs.Joined.{found_at, found_nowhere}
use Rattle.journal.proofs.entries.Pending.get.Goals as goal

pub returns-in_err-at : goal.returns-in_err-at
returns-in_err-at c =
    let none : None ≡ place (waiting c.args.self.now) c.args.page = sym c.in_err-at.was ∙ c.place_of.ensures in
    ap (option_map (λ b. b.now)) c.from_residual.ensures ∙ found_nowhere (waiting c.args.self.now) c.args.page none

pub bytes_at-requires : goal.bytes_at-requires
bytes_at-requires c = (placed (waiting c.args.self.now) c.args.page c.in_ok-at.at (sym c.in_ok-at.was ∙ c.place_of.ensures)).within

pub returns : goal.returns
returns c =
    let here : Some c.in_ok-at.at ≡ place (waiting c.args.self.now) c.args.page = sym c.in_ok-at.was ∙ c.place_of.ensures in
    ap Some c.bytes_at.ensures ∙ found_at (waiting c.args.self.now) c.args.page c.in_ok-at.at here
