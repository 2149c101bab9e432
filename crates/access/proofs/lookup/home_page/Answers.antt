use Rattle.std.proofs.Common.{◌+◌, ◌/◌, ◌<◌, Some, ap, ◌∙◌, arith, rules}
use Rattle.std.proofs.lemmas.Option.{MatchOption-at_some, MatchOption-at_none}
use Rattle.std.proofs.lemmas.Result.{err_from_is_err_and}
use Rattle.pages.proofs.Checking.{one_spoiled, directories_spoiled}
use Rattle.pages.proofs.Looking.{held_as, held_on, stopped_on}
use Rattle.access.proofs.Seeking.{home_is, root_laid, prefix_small}
use Rattle.access.proofs.lookup.home_page.Goals as goal

pub returns-in_default : goal.returns-in_default
returns-in_default g c = λ h a.
    held_as g.D.Device.agrees g.D.Device.meaning g.D.GroupDevice.grouped 1 2 c.args.device.now c.read_page.new.device (omega arith) (c.in_ok-page.ensures (omega (arith, h)) a)
    (λ n f r m. absurd (one_spoiled g.K.KeyRule.rule n f (MatchOption-at_none _ _ c.in_default.is r) m.first))

pub returns-in_default-read_root : goal.returns-in_default-read_root
returns-in_default-read_root g c = λ h a.
    held_as g.D.Device.agrees g.D.Device.meaning g.D.GroupDevice.grouped 1 2 c.args.device.now c.read_page.new.device (omega arith) (c.in_ok-page.ensures (omega (arith, h)) a)
    (λ n f r m. absurd (root_laid g.K.KeyRule.rule n f c.in-Some.page (MatchOption-at_some _ _ c.in-Some.page c.in-Some.is r) c.in_default-read_root.ensures m))

pub overflow_cast-i-2 : goal.overflow_cast-i-2
overflow_cast-i-2 g c = let i = prefix_small c.args.hash c.from.result c.prefix-i.result (omega arith) (omega arith) c.prefix-i.ensures in search rules

pub returns-in_err-entries : goal.returns-in_err-entries
returns-in_err-entries g c =
    let p = err_from_is_err_and c.from_residual-in_err-entries.result c.from_residual-in_err-entries.ensures.1 in
    let i = prefix_small c.args.hash c.from.result c.prefix-i.result (omega arith) (omega arith) c.prefix-i.ensures in
    rw (p.1, p.2) (λ h a.
    let q = c.in_ok-page.ensures (omega (arith, h)) a in
    let lt : 1 + c.prefix-i.result / 64 < (g.D.Device.meaning c.read_page.new.device).count = omega (arith, h, i, q.0.same.count) in
    stopped_on g.D.Device.agrees g.D.Device.meaning g.D.GroupDevice.grouped 1 1 2 c.args.device.now c.read_page.new.device c.read_page-2.new.device _ (omega arith) q (c.in_err-entries.ensures lt q.0.ready))

pub returns-in_default-2 : goal.returns-in_default-2
returns-in_default-2 g c = λ h a.
    let i = prefix_small c.args.hash c.from.result c.prefix-i.result (omega arith) (omega arith) c.prefix-i.ensures in
    let q = c.in_ok-page.ensures (omega (arith, h)) a in
    let lt : 1 + c.prefix-i.result / 64 < (g.D.Device.meaning c.read_page.new.device).count = omega (arith, h, i, q.0.same.count) in
    held_on g.D.Device.agrees g.D.Device.meaning g.D.GroupDevice.grouped 1 1 2 c.args.device.now c.read_page.new.device c.read_page-2.new.device (omega arith) q (c.in_ok-entries.ensures lt q.0.ready)
    (λ n f r s m. absurd (directories_spoiled f (c.prefix-i.result / 64) (omega arith) (MatchOption-at_none _ _ c.in_default-2.is s) m.second.layout))

pub returns : goal.returns
returns g c = λ h a.
    let i = prefix_small c.args.hash c.from.result c.prefix-i.result (omega arith) (omega arith) c.prefix-i.ensures in
    let q = c.in_ok-page.ensures (omega (arith, h)) a in
    let lt : 1 + c.prefix-i.result / 64 < (g.D.Device.meaning c.read_page.new.device).count = omega (arith, h, i, q.0.same.count) in
    held_on g.D.Device.agrees g.D.Device.meaning g.D.GroupDevice.grouped 1 1 2 c.args.device.now c.read_page.new.device c.read_page-2.new.device (omega arith) q (c.in_ok-entries.ensures lt q.0.ready)
    (λ n f r s m.
    ap Some (c.from-2.ensures ∙ c.entry_of.ensures
    ∙ home_is g.K.KeyRule.rule n f c.args.hash c.from.result c.prefix-i.result c.in-Some.page c.in-Some-2.entries c.in-Some-read_root.root
    (MatchOption-at_some _ _ c.in-Some.page c.in-Some.is r) c.in-Some-read_root.ensures (MatchOption-at_some _ _ c.in-Some-2.entries c.in-Some-2.is s) (c.from.ensures ∙ c.min.ensures) c.prefix-i.ensures m))
