use Rattle.cache.proofs.SlotLaws.{found, not_found}
use Rattle.cache.proofs.table.Table.get.Goals as goal

pub returns-in_err-i : goal.returns-in_err-i
returns-in_err-i c = rw c.from_residual.ensures (not_found c.args.self.now.slots.items c.args.page c.in_err-i.ensures)

pub returns : goal.returns
returns c = rw c.deref.ensures.0 (c.in_ok-i.i, found c.args.self.now.slots.items c.args.page c.in_ok-i.i c.in_ok-i.ensures)
