use Rattle.directory.proofs.Taken.{pages_taken}
use Rattle.directory.proofs.pages_taken.Goals as goal

pub returns : goal.returns
returns c = record { first = c.first_page.ensures; taken = pages_taken }
