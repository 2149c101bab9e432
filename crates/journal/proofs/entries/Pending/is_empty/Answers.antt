use Rattle.std.proofs.Common.{◌∙◌, arith}
use Rattle.journal.proofs.Joined.{joined_none}
use Rattle.journal.proofs.entries.Pending.is_empty.Goals as goal

pub returns : goal.returns
returns c = c.is_empty.ensures ∙ joined_none c.args.self.now.pages.items c.args.self.now.bytes (omega arith)
