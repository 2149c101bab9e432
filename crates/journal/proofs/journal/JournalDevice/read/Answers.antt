use Rattle.journal.proofs.journal.JournalDevice.read.Goals as goal

pub returns : goal.returns
returns g c =
    let x = c.read_page.ensures in
    record { does = λ h. record { agrees = (x.does h).agrees; means = (x.does h).means.0 }; calls = x.calls; sends = x.sends }
