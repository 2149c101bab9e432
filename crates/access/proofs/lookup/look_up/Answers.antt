use Rattle.std.proofs.Common.{◌≡◌, ◌<◌, sym, subst, arith}
use Rattle.std.proofs.lemmas.Option.{MatchOption-at_some, MatchOption-at_none}
use Rattle.std.proofs.lemmas.Result.{err_from_is_err_and}
use Rattle.tree.specs.Prefix.{pre}
use Rattle.pages.specs.Images.{root, entry}
use Rattle.pages.proofs.Looking.{kept_on, stopped_on, shows_self, shows_on}
use Rattle.access.proofs.Seeking.{at_home, home_page_below, home_shown, look_told}
use Rattle.access.proofs.lookup.look_up.Goals as goal

pub returns-in_default-clause-looks : goal.returns-in_default-clause-looks
returns-in_default-clause-looks g c = λ v l m w a.
    let o = g.D.Device.meaning c.args.device.now in
    let q = c.in_ok-home.ensures (omega (arith, w.met.first.room, w.met.first.least)) a in
    let t = q.1 o.count o.shown (shows_self o) w.met in
    let no : ⊥ = cc (t, c.in_default.is) in
    absurd no

pub returns-in_err-page-clause-looks : goal.returns-in_err-page-clause-looks
returns-in_err-page-clause-looks g c =
    let p = err_from_is_err_and c.from_residual-in_err-page.result c.from_residual-in_err-page.ensures.1 in
    rw (p.1, p.2) (λ v l m w a.
    let d = c.args.device.now in
    let o = g.D.Device.meaning d in
    let q = c.in_ok-home.ensures (omega (arith, w.met.first.room, w.met.first.least)) a in
    let t = q.1 o.count o.shown (shows_self o) w.met in
    let u : c.in-Some.home ≡ entry o.shown (pre 32 c.hash.result (root o.shown).depth) = cc (t, c.in-Some.is) in
    let e = at_home g.K.KeyRule.rule g.met.K.KeyRule.lawful o.count o.shown m w c.args.key.now v c.in-Some.home c.hash.result c.hash.ensures u in
    let h = home_page_below g.K.KeyRule.rule g.met.K.KeyRule.lawful o.count o.shown m w c.args.key.now v c.in-Some.home e in
    stopped_on g.D.Device.agrees g.D.Device.meaning g.D.GroupDevice.grouped 2 1 3 d c.home_page.new.device c.read_page.new.device _ (omega arith) q
    (c.in_err-page.ensures (subst (λ k. c.in-Some.home < k) (sym q.0.same.count) h) q.0.ready))

pub returns-in_default-2-clause-looks : goal.returns-in_default-2-clause-looks
returns-in_default-2-clause-looks g c = λ v l m w a.
    let d = c.args.device.now in
    let o = g.D.Device.meaning d in
    let q = c.in_ok-home.ensures (omega (arith, w.met.first.room, w.met.first.least)) a in
    let t = q.1 o.count o.shown (shows_self o) w.met in
    let u : c.in-Some.home ≡ entry o.shown (pre 32 c.hash.result (root o.shown).depth) = cc (t, c.in-Some.is) in
    let e = at_home g.K.KeyRule.rule g.met.K.KeyRule.lawful o.count o.shown m w c.args.key.now v c.in-Some.home c.hash.result c.hash.ensures u in
    let h = home_page_below g.K.KeyRule.rule g.met.K.KeyRule.lawful o.count o.shown m w c.args.key.now v c.in-Some.home e in
    let r = c.in_ok-page.ensures (subst (λ k. c.in-Some.home < k) (sym q.0.same.count) h) q.0.ready in
    let s = shows_on g.D.Device.agrees g.D.Device.meaning g.D.GroupDevice.grouped 2 d c.home_page.new.device q.0 o.count o.shown (shows_self o) in
    absurd (home_shown g.K.KeyRule.rule g.met.K.KeyRule.lawful o.count o.shown m w c.args.key.now v c.in-Some.home e (MatchOption-at_none _ _ c.in_default-2.is (r.1 o.count o.shown s)))

pub returns-clause-looks : goal.returns-clause-looks
returns-clause-looks g c = λ v l m w a.
    let d = c.args.device.now in
    let o = g.D.Device.meaning d in
    let q = c.in_ok-home.ensures (omega (arith, w.met.first.room, w.met.first.least)) a in
    let t = q.1 o.count o.shown (shows_self o) w.met in
    let u : c.in-Some.home ≡ entry o.shown (pre 32 c.hash.result (root o.shown).depth) = cc (t, c.in-Some.is) in
    let e = at_home g.K.KeyRule.rule g.met.K.KeyRule.lawful o.count o.shown m w c.args.key.now v c.in-Some.home c.hash.result c.hash.ensures u in
    let h = home_page_below g.K.KeyRule.rule g.met.K.KeyRule.lawful o.count o.shown m w c.args.key.now v c.in-Some.home e in
    let r = c.in_ok-page.ensures (subst (λ k. c.in-Some.home < k) (sym q.0.same.count) h) q.0.ready in
    let s = shows_on g.D.Device.agrees g.D.Device.meaning g.D.GroupDevice.grouped 2 d c.home_page.new.device q.0 o.count o.shown (shows_self o) in
    let b = MatchOption-at_some _ _ c.in-Some-2.page c.in-Some-2.is (r.1 o.count o.shown s) in
    let t2 = look_told g.K.KeyRule.rule g.met.K.KeyRule.lawful o.count o.shown m w c.args.key.now v c.in-Some.home c.in-Some-2.page e b c.args.buf.now c.copy_found.new.buf c.copy_found.result l c.copy_found.ensures in
    (kept_on g.D.Device.agrees g.D.Device.meaning g.D.GroupDevice.grouped 2 1 3 d c.home_page.new.device c.read_page.new.device (omega arith) q.0 r.0, λ n f z. t2)
