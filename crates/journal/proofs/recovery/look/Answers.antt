use Rattle.std.proofs.Common.{◌≡◌, replicate, arith}
use Rattle.std.proofs.lemmas.Grind.{common_steps}
use Rattle.device.specs.Calls.{reads, lost}
use Rattle.journal.specs.Sending.{bare}
use Rattle.journal.proofs.Sent.{made, looked_on}
use Rattle.journal.proofs.recovery.look.Goals as goal

pub returns-clause-makes : goal.returns-clause-makes
returns-clause-makes g c =
    let meaning = g.D.Device.meaning in
    let a = c.args.below.now in
    let e = c.read-r.new.self in
    let r = c.read-r.result in
    let buf = c.read-r.new.buf in
    let same : lost r ≡ lost (bare c.shown_page.result) = grind (arith, common_steps) in
    λ h t. looked_on meaning r (bare c.shown_page.result) a e same (made meaning (reads c.args.page (replicate 252 0) buf) r a e t (c.read-r.ensures.does h).means)
