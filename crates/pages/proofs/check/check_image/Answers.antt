use Rattle.std.proofs.Common.{arith}
use Rattle.pages.specs.Surveys.{at}
use Rattle.pages.specs.Checks.{LaidOut, decision, Decided}
use Rattle.pages.specs.Reads.{Seen}
use Rattle.pages.proofs.Looking.{kept_none, looks_on, shows_back}
use Rattle.pages.proofs.Whole.{lowest_1}
use Rattle.pages.proofs.check.check_image.Goals as goal

pub returns-then-page_count-lt6 : goal.returns-then-page_count-lt6
returns-then-page_count-lt6 g c = λ a.
    (kept_none g.D.Device.agrees g.D.Device.meaning g.D.GroupDevice.grouped 261 c.args.device.now a, λ n f s. lowest_1 g.K.KeyRule.rule n f (λ w. omega (arith, w.least, w.room, s.count, c.page_count.ensures)))

pub returns : goal.returns
returns g c = λ a.
    let q = c.in_ok-layout.ensures (omega (arith, c.page_count.ensures)) a in
    let l : Seen (g.D.Device.meaning c.check_layout.new.device) (λ n f. LaidOut g.K.KeyRule.rule n f c.in_ok-layout.layout.root (at c.in_ok-layout.layout.entries)) =
    λ n f s. q.1 n f (shows_back g.D.Device.agrees g.D.Device.meaning g.D.GroupDevice.grouped 5 c.args.device.now c.check_layout.new.device q.0 n f s) in
    looks_on g.D.Device.agrees g.D.Device.meaning g.D.GroupDevice.grouped 5 256 261 c.args.device.now c.check_layout.new.device c.check_buckets.new.device (decision c.check_buckets.result) (λ n f r. Decided g.K.KeyRule.rule n f r) (omega arith) q (c.check_buckets.ensures l q.0.ready)
