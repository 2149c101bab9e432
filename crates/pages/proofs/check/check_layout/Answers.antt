use Rattle.std.proofs.Common.{◌<◌, refl, arith}
use Rattle.std.proofs.lemmas.Result.{err_from_is_err_and}
use Rattle.std.proofs.lemmas.Option.{MatchOption-at_some, MatchOption-at_none}
use Rattle.pages.specs.Surveys.{at}
use Rattle.pages.proofs.Answering.{refused_by}
use Rattle.pages.proofs.Looking.{held_as, held_on, stopped_on}
use Rattle.pages.proofs.Whole.{lowest_1, lowest_2, lowest_3, second_from, second_not, third_from, third_not}
use Rattle.pages.proofs.check.check_layout.Goals as goal

pub returns-in_err-root : goal.returns-in_err-root
returns-in_err-root g c =
    let p = err_from_is_err_and c.from_residual-in_err-root.result c.from_residual-in_err-root.ensures.1 in
    rw (p.1, p.2, refused_by _ _ _ c.in_err-root.ensures.value) (λ h a.
    held_as g.D.Device.agrees g.D.Device.meaning g.D.GroupDevice.grouped 1 5 c.args.device.now c.check_root.new.device (omega arith) (c.in_ok-check_root.ensures.looks h a)
    (λ n f y. lowest_1 g.K.KeyRule.rule n f (MatchOption-at_none _ _ c.in_err-root.ensures.ok_part y)))

pub returns-in_err-read_directory : goal.returns-in_err-read_directory
returns-in_err-read_directory g c =
    let p = err_from_is_err_and c.from_residual-in_err-read_directory.result c.from_residual-in_err-read_directory.ensures.1 in
    rw (p.1, p.2) (λ h a.
    let q = c.in_ok-check_root.ensures.looks h a in
    let h1 : 5 < (g.D.Device.meaning c.check_root.new.device).count = omega (arith, h, q.0.same.count) in
    stopped_on g.D.Device.agrees g.D.Device.meaning g.D.GroupDevice.grouped 1 4 5 c.args.device.now c.check_root.new.device c.read_directory.new.device _ (omega arith) q (c.in_err-read_directory.ensures h1 q.0.ready))

pub returns-in_err-entries : goal.returns-in_err-entries
returns-in_err-entries g c =
    let p = err_from_is_err_and c.from_residual-in_err-entries.result c.from_residual-in_err-entries.ensures.1 in
    rw (p.1, p.2, refused_by _ _ _ c.in_err-entries.ensures.value) (λ h a.
    let q = c.in_ok-check_root.ensures.looks h a in
    let h1 : 5 < (g.D.Device.meaning c.check_root.new.device).count = omega (arith, h, q.0.same.count) in
    held_on g.D.Device.agrees g.D.Device.meaning g.D.GroupDevice.grouped 1 4 5 c.args.device.now c.check_root.new.device c.read_directory.new.device (omega arith) q (c.in_ok-read_directory.ensures h1 q.0.ready)
    (λ n f y z.
    let r = MatchOption-at_some _ _ c.in_ok-root.root c.in_ok-root.ensures.ok_part y in
    lowest_2 g.K.KeyRule.rule n f r.0 (λ w. MatchOption-at_none _ _ c.in_err-entries.ensures.ok_part z w.layout)))

pub returns-then-not-unused_zero : goal.returns-then-not-unused_zero
returns-then-not-unused_zero g c = λ h a.
    let q = c.in_ok-check_root.ensures.looks h a in
    let h1 : 5 < (g.D.Device.meaning c.check_root.new.device).count = omega (arith, h, q.0.same.count) in
    held_on g.D.Device.agrees g.D.Device.meaning g.D.GroupDevice.grouped 1 4 5 c.args.device.now c.check_root.new.device c.read_directory.new.device (omega arith) q (c.in_ok-read_directory.ensures h1 q.0.ready)
    (λ n f y z.
    let r = MatchOption-at_some _ _ c.in_ok-root.root c.in_ok-root.ensures.ok_part y in
    let d = MatchOption-at_some _ _ c.in_ok-entries.entries c.in_ok-entries.ensures.ok_part z in
    lowest_2 g.K.KeyRule.rule n f r.0 (second_not g.K.KeyRule.rule n f c.in_ok-root.root c.in_ok-root.root.depth refl r.0 r.1 (at c.in_ok-entries.entries) d.1 c.if-not-unused_zero.ensures))

pub returns-then-not-in_range : goal.returns-then-not-in_range
returns-then-not-in_range g c = λ h a.
    let q = c.in_ok-check_root.ensures.looks h a in
    let h1 : 5 < (g.D.Device.meaning c.check_root.new.device).count = omega (arith, h, q.0.same.count) in
    held_on g.D.Device.agrees g.D.Device.meaning g.D.GroupDevice.grouped 1 4 5 c.args.device.now c.check_root.new.device c.read_directory.new.device (omega arith) q (c.in_ok-read_directory.ensures h1 q.0.ready)
    (λ n f y z.
    let r = MatchOption-at_some _ _ c.in_ok-root.root c.in_ok-root.ensures.ok_part y in
    let d = MatchOption-at_some _ _ c.in_ok-entries.entries c.in_ok-entries.ensures.ok_part z in
    lowest_3 g.K.KeyRule.rule n f r.0 (second_from g.K.KeyRule.rule n f c.in_ok-root.root c.in_ok-root.root.depth refl r.0 r.1 (at c.in_ok-entries.entries) d.1 d.0 c.if-not-unused_zero.ensures)
    (third_not g.K.KeyRule.rule n f c.in_ok-root.root c.in_ok-root.root.depth refl r.0 r.1 (at c.in_ok-entries.entries) d.1 c.if-not-in_range.ensures))

pub returns : goal.returns
returns g c = λ h a.
    let q = c.in_ok-check_root.ensures.looks h a in
    let h1 : 5 < (g.D.Device.meaning c.check_root.new.device).count = omega (arith, h, q.0.same.count) in
    held_on g.D.Device.agrees g.D.Device.meaning g.D.GroupDevice.grouped 1 4 5 c.args.device.now c.check_root.new.device c.read_directory.new.device (omega arith) q (c.in_ok-read_directory.ensures h1 q.0.ready)
    (λ n f y z.
    let r = MatchOption-at_some _ _ c.in_ok-root.root c.in_ok-root.ensures.ok_part y in
    let d = MatchOption-at_some _ _ c.in_ok-entries.entries c.in_ok-entries.ensures.ok_part z in
    record {
      first = r.0;
      second = second_from g.K.KeyRule.rule n f c.in_ok-root.root c.in_ok-root.root.depth refl r.0 r.1 (at c.in_ok-entries.entries) d.1 d.0 c.if-not-unused_zero.ensures;
      third = third_from g.K.KeyRule.rule n f c.in_ok-root.root c.in_ok-root.root.depth refl r.0 r.1 (at c.in_ok-entries.entries) d.1 c.if-not-in_range.ensures;
      rooted = r.1;
      entries = d.1;
    })
