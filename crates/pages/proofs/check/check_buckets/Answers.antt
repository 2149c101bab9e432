use Rattle.std.proofs.Common.{◌^◌, ◌≤◌, refl, arith, pow_mono}
use Rattle.std.proofs.lemmas.Result.{err_from_is_err_and}
use Rattle.std.proofs.lemmas.Option.{MatchOption-at_some, MatchOption-at_none}
use Rattle.pages.specs.Surveys.{at}
use Rattle.pages.proofs.Answering.{refused_by}
use Rattle.pages.proofs.Entries.{used_placed, placed_used}
use Rattle.pages.proofs.Looking.{kept_none, held_as, stopped_on, shows_self}
use Rattle.pages.proofs.Whole.{named_below, broken_4, broken_5_records, broken_5_entries, broken_6, all_six}
use Rattle.pages.proofs.check.check_buckets.Goals as goal

pub returns-in_err-read_buckets : goal.returns-in_err-read_buckets
returns-in_err-read_buckets g c =
    let p = err_from_is_err_and c.from_residual.result c.from_residual.ensures.1 in
    rw (p.1, p.2) (λ l a.
    let m = g.D.Device.meaning c.args.device.now in
    let x = c.args.layout.now.root in
    let w = x.depth in
    let E = at c.args.layout.now.entries in
    let below = named_below g.K.KeyRule.rule m.count m.shown x w refl E (l m.count m.shown (shows_self m)) in
    let wide : 2 ^ w ≤ 2 ^ 8 = pow_mono c.args.layout.now.deep in
    stopped_on g.D.Device.agrees g.D.Device.meaning g.D.GroupDevice.grouped 0 (2 ^ w) 256 c.args.device.now c.args.device.now c.read_buckets.new.device _ (omega (arith, wide)) (kept_none g.D.Device.agrees g.D.Device.meaning g.D.GroupDevice.grouped 0 c.args.device.now a, λ n f s. s) (c.in_err-read_buckets.ensures below a))

pub returns-in_err-buckets : goal.returns-in_err-buckets
returns-in_err-buckets g c =
    let p = err_from_is_err_and c.from_residual-in_err-buckets.result c.from_residual-in_err-buckets.ensures.1 in
    rw (p.1, p.2, refused_by _ _ _ c.in_err-buckets.ensures.value) (λ l a.
    let m = g.D.Device.meaning c.args.device.now in
    let x = c.args.layout.now.root in
    let w = x.depth in
    let E = at c.args.layout.now.entries in
    let below = named_below g.K.KeyRule.rule m.count m.shown x w refl E (l m.count m.shown (shows_self m)) in
    let wide : 2 ^ w ≤ 2 ^ 8 = pow_mono c.args.layout.now.deep in
    let q = held_as g.D.Device.agrees g.D.Device.meaning g.D.GroupDevice.grouped (2 ^ w) 256 c.args.device.now c.read_buckets.new.device (omega (arith, wide)) (c.in_ok-read_buckets.ensures below a) (λ n f y. y) in
    (q.0, λ n f s. broken_4 g.K.KeyRule.rule n f x w refl E (l n f s) (MatchOption-at_none _ _ c.in_err-buckets.ensures.ok_part (q.1 n f s))))

pub returns-in_err-survey : goal.returns-in_err-survey
returns-in_err-survey g c =
    let p = err_from_is_err_and c.from_residual-in_err-survey.result c.from_residual-in_err-survey.ensures.1 in
    rw (p.1, p.2, refused_by _ _ _ c.in_err-survey.ensures.value) (λ l a.
    let m = g.D.Device.meaning c.args.device.now in
    let x = c.args.layout.now.root in
    let w = x.depth in
    let E = at c.args.layout.now.entries in
    let below = named_below g.K.KeyRule.rule m.count m.shown x w refl E (l m.count m.shown (shows_self m)) in
    let wide : 2 ^ w ≤ 2 ^ 8 = pow_mono c.args.layout.now.deep in
    let q = held_as g.D.Device.agrees g.D.Device.meaning g.D.GroupDevice.grouped (2 ^ w) 256 c.args.device.now c.read_buckets.new.device (omega (arith, wide)) (c.in_ok-read_buckets.ensures below a) (λ n f y. y) in
    (q.0, λ n f s. broken_5_records g.K.KeyRule.rule n f x w refl E (l n f s) c.in_ok-buckets.buckets (MatchOption-at_some _ _ c.in_ok-buckets.buckets c.in_ok-buckets.ensures.ok_part (q.1 n f s)) (MatchOption-at_none _ _ c.in_err-survey.ensures.ok_part c.new.ensures)))

pub returns-then-not-entries_placed : goal.returns-then-not-entries_placed
returns-then-not-entries_placed g c = λ l a.
    let m = g.D.Device.meaning c.args.device.now in
    let x = c.args.layout.now.root in
    let w = x.depth in
    let E = at c.args.layout.now.entries in
    let below = named_below g.K.KeyRule.rule m.count m.shown x w refl E (l m.count m.shown (shows_self m)) in
    let wide : 2 ^ w ≤ 2 ^ 8 = pow_mono c.args.layout.now.deep in
    let q = held_as g.D.Device.agrees g.D.Device.meaning g.D.GroupDevice.grouped (2 ^ w) 256 c.args.device.now c.read_buckets.new.device (omega (arith, wide)) (c.in_ok-read_buckets.ensures below a) (λ n f y. y) in
    let t = MatchOption-at_some _ _ c.in_ok-survey.survey c.in_ok-survey.ensures.ok_part c.new.ensures in
    let un = rw (t.1, t.2, t.3) at c.if-not-entries_placed.ensures in
    (q.0, λ n f s. broken_5_entries g.K.KeyRule.rule n f x w refl E (l n f s) c.in_ok-buckets.buckets (MatchOption-at_some _ _ c.in_ok-buckets.buckets c.in_ok-buckets.ensures.ok_part (q.1 n f s)) (λ en. un (placed_used c.args.layout.now.entries _ w en)))

pub returns-then-not-is_tree : goal.returns-then-not-is_tree
returns-then-not-is_tree g c = λ l a.
    let m = g.D.Device.meaning c.args.device.now in
    let x = c.args.layout.now.root in
    let w = x.depth in
    let E = at c.args.layout.now.entries in
    let below = named_below g.K.KeyRule.rule m.count m.shown x w refl E (l m.count m.shown (shows_self m)) in
    let wide : 2 ^ w ≤ 2 ^ 8 = pow_mono c.args.layout.now.deep in
    let q = held_as g.D.Device.agrees g.D.Device.meaning g.D.GroupDevice.grouped (2 ^ w) 256 c.args.device.now c.read_buckets.new.device (omega (arith, wide)) (c.in_ok-read_buckets.ensures below a) (λ n f y. y) in
    let t = MatchOption-at_some _ _ c.in_ok-survey.survey c.in_ok-survey.ensures.ok_part c.new.ensures in
    let en = used_placed c.args.layout.now.entries _ w (rw (t.1, t.2, t.3) at c.if-not-entries_placed.ensures) in
    let tr = rw (t.1, t.3) at c.if-not-is_tree.ensures in
    (q.0, λ n f s. broken_6 g.K.KeyRule.rule n f x w refl E (l n f s) c.in_ok-buckets.buckets (MatchOption-at_some _ _ c.in_ok-buckets.buckets c.in_ok-buckets.ensures.ok_part (q.1 n f s)) t.0 en tr.0 tr.1 tr.2)

pub returns : goal.returns
returns g c = λ l a.
    let m = g.D.Device.meaning c.args.device.now in
    let x = c.args.layout.now.root in
    let w = x.depth in
    let E = at c.args.layout.now.entries in
    let below = named_below g.K.KeyRule.rule m.count m.shown x w refl E (l m.count m.shown (shows_self m)) in
    let wide : 2 ^ w ≤ 2 ^ 8 = pow_mono c.args.layout.now.deep in
    let q = held_as g.D.Device.agrees g.D.Device.meaning g.D.GroupDevice.grouped (2 ^ w) 256 c.args.device.now c.read_buckets.new.device (omega (arith, wide)) (c.in_ok-read_buckets.ensures below a) (λ n f y. y) in
    let t = MatchOption-at_some _ _ c.in_ok-survey.survey c.in_ok-survey.ensures.ok_part c.new.ensures in
    let en = used_placed c.args.layout.now.entries _ w (rw (t.1, t.2, t.3) at c.if-not-entries_placed.ensures) in
    let tr = rw (t.1, t.3) at c.if-not-is_tree.ensures in
    (q.0, λ n f s. all_six g.K.KeyRule.rule n f x w refl E (l n f s) c.in_ok-buckets.buckets (MatchOption-at_some _ _ c.in_ok-buckets.buckets c.in_ok-buckets.ensures.ok_part (q.1 n f s)) t.0 en tr.0 tr.1 tr.2)
