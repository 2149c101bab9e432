use Rattle.std.proofs.Common.{◌≡◌, ◌+◌, ◌/◌, ◌%◌, ◌<◌, [], get_or, refl, ◌∙◌, subst, arith, rules}
use borrow.Author.Tests.{tests}
use Rattle.pages.specs.Bytes.{entry_at}
use Rattle.pages.proofs.Entries.{made_by}
use Rattle.std.proofs.lemmas.List.{length-set}
use Rattle.std.proofs.lemmas.Option.{MatchOption-at_some, MatchOption-at_none}
use Rattle.std.proofs.lemmas.Result.{err_from_is_err_and}
use Rattle.pages.proofs.Looking.{Held, kept_none, held_on, stopped_on}
use Rattle.pages.proofs.Checking.{PagesRead, directories_more, directories_not, directories_spoiled, entries_read}
use Rattle.pages.proofs.check.read_directory.Goals as goal

pub loop-j-init : goal.loop-j-init
loop-j-init g c = (refl, λ h a. (kept_none g.D.Device.agrees g.D.Device.meaning g.D.GroupDevice.grouped 0 c.args.device.now a, λ n f w m lt. absurd (omega (arith, lt))))

pub returns-in_err-page : goal.returns-in_err-page
returns-in_err-page g c =
    let p = err_from_is_err_and c.from_residual.result c.from_residual.ensures.1 in
    rw (p.1, p.2) (λ h a.
    let i = c.loop-j.invariant.1 h a in
    let lt : 1 + c.loop-j.j < (g.D.Device.meaning c.loop-j.device).count = omega (arith, h, i.0.same.count) in
    stopped_on g.D.Device.agrees g.D.Device.meaning g.D.GroupDevice.grouped c.loop-j.j 1 4 c.args.device.now c.loop-j.device c.read_page.new.device _ (omega arith) i (c.in_err-page.ensures lt i.0.ready))

pub returns-in_default : goal.returns-in_default
returns-in_default g c = λ h a.
    let i = c.loop-j.invariant.1 h a in
    let lt : 1 + c.loop-j.j < (g.D.Device.meaning c.loop-j.device).count = omega (arith, h, i.0.same.count) in
    held_on g.D.Device.agrees g.D.Device.meaning g.D.GroupDevice.grouped c.loop-j.j 1 4 c.args.device.now c.loop-j.device c.read_page.new.device (omega arith) i (c.in_ok-page.ensures lt i.0.ready)
    (λ n f x y. directories_spoiled f c.loop-j.j (omega arith) (MatchOption-at_none _ _ c.in_default.is y))

pub returns-then-not-is_directory : goal.returns-then-not-is_directory
returns-then-not-is_directory g c = λ h a.
    let i = c.loop-j.invariant.1 h a in
    let lt : 1 + c.loop-j.j < (g.D.Device.meaning c.loop-j.device).count = omega (arith, h, i.0.same.count) in
    held_on g.D.Device.agrees g.D.Device.meaning g.D.GroupDevice.grouped c.loop-j.j 1 4 c.args.device.now c.loop-j.device c.read_page.new.device (omega arith) i (c.in_ok-page.ensures lt i.0.ready)
    (λ n f x y. directories_not f c.loop-j.j c.in-Some.page (omega arith) (MatchOption-at_some _ _ c.in-Some.page c.in-Some.is y) c.if-not-is_directory.ensures)

pub loop-j-preserved : goal.loop-j-preserved
loop-j-preserved g c = (
  length-set c.loop-j.slot-items c.loop-j.j _ ∙ c.loop-j.invariant.0,
  λ h a.
      let i = c.loop-j.invariant.1 h a in
      let lt : 1 + c.loop-j.j < (g.D.Device.meaning c.loop-j.device).count = omega (arith, h, i.0.same.count) in
      held_on g.D.Device.agrees g.D.Device.meaning g.D.GroupDevice.grouped c.loop-j.j 1 (c.loop-j.j + 1) c.args.device.now c.loop-j.device c.read_page.new.device (omega arith) i (c.in_ok-page.ensures lt i.0.ready)
      (λ n f x y. directories_more f c.loop-j.j c.in-Some.page c.loop-j.slot-items (omega (arith, c.loop-j.invariant.0)) (MatchOption-at_some _ _ c.in-Some.page c.in-Some.is y) c.if-not-is_directory.ensures x),
)

pub returns : goal.returns
returns g c = λ h a.
    let e : c.loop-j.j ≡ 4 = omega arith in
    let i = subst (λ k. Held g.D.Device.agrees g.D.Device.meaning g.D.GroupDevice.grouped k c.args.device.now c.loop-j.device (λ n f. PagesRead f k c.loop-j.slot-items)) e (c.loop-j.invariant.1 h a) in (
      i.0,
      λ n f s. entries_read f c.loop-j.slot-items c.from_fn.result (i.1 n f s)
          (λ k l. made_by _ _ (λ v. entry_at (get_or c.loop-j.slot-items (v / 64) []) (v % 64)) (λ x y q w. search (rules, tests)) c.from_fn.result 0 256 c.from_fn.ensures.items.each k (omega arith) (omega arith)),
    )
