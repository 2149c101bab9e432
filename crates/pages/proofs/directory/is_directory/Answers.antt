use Rattle.std.proofs.Common.{rules}
use borrow.Author.Tests.{tests}
use Rattle.pages.proofs.Envelopes.{directory_if}
use Rattle.pages.proofs.directory.is_directory.Goals as goal

pub returns : goal.returns
returns c = directory_if c.body_of.result c.is_some_and.result c.args.page.now _ c.body_of.ensures c.is_some_and.ensures (λ b k. search (rules, tests))
