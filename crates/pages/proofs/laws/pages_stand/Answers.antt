use Rattle.pages.proofs.Emptied.{empty_formed}
use Rattle.pages.proofs.Forming.{formed_from, formed_to}
use Rattle.pages.proofs.Writing.{page_written, entry_written}
use Rattle.pages.proofs.laws.pages_stand.Goals as goal

pub returns : goal.returns
returns g c =
    let R = g.K.KeyRule.rule in
    let law = g.met.K.KeyRule.lawful in
    record { first = c.first_bucket.ensures; from = formed_from R law; to = formed_to R law; empty = empty_formed R; page = page_written; entry = entry_written }
