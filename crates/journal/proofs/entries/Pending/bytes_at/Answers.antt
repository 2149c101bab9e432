use Rattle.std.proofs.Common.{arith}
use Rattle.journal.proofs.Joined.{joined_short, joined_bytes}
use Rattle.journal.proofs.entries.Pending.bytes_at.Goals as goal

pub offset_bounds-self-at : goal.offset_bounds-self-at
offset_bounds-self-at c = let a = joined_short c.args.self.now.pages.items c.args.self.now.bytes in omega (arith, c.requires)

pub bounds-self-at : goal.bounds-self-at
bounds-self-at c = let a = joined_short c.args.self.now.pages.items c.args.self.now.bytes in omega (arith, c.requires)

pub returns : goal.returns
returns c = joined_bytes c.args.self.now.pages.items c.args.self.now.bytes c.args.at _ c.requires
