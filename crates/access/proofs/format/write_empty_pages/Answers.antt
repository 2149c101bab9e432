use Rattle.std.proofs.Common.{◌≡◌, ◌+◌, ◌<◌, ap, ◌∙◌, subst, inr, arith, below_more}
use Rattle.std.proofs.lemmas.Result.{err_from_is_err_and}
use Rattle.device.specs.Meaning.{bytes}
use Rattle.layout.specs.Envelope.{envelope}
use Rattle.pages.specs.Formats.{empty_body}
use Rattle.access.specs.Moves.{Moved}
use Rattle.access.proofs.Moving.{moved_none, moved_on, cut_on}
use Rattle.access.proofs.format.write_empty_pages.Goals as goal

pub loop-i-init : goal.loop-i-init
loop-i-init g c = λ h l a. (moved_none g.D.Device.agrees g.D.Device.meaning g.D.GroupDevice.grouped 0 (λ j. j < 6) c.args.device.now a, λ j k. absurd (omega (arith, k)))

pub returns-in_err-write_page : goal.returns-in_err-write_page
returns-in_err-write_page g c =
    let p = err_from_is_err_and c.from_residual.result c.from_residual.ensures.1 in
    rw (p.1, p.2) (λ h l a.
    let i = c.loop-i.invariant h l a in
    let r = c.in_err-write_page.ensures (omega (arith, h, i.0.count)) (inr (omega (arith, l, i.0.more))) i.0.ready in
    (r.0, cut_on g.D.Device.agrees g.D.Device.meaning g.D.GroupDevice.grouped c.loop-i.i (λ j. j < 6) c.args.device.now c.loop-i.device c.write_page.new.device i.0 r.1))

pub loop-i-preserved : goal.loop-i-preserved
loop-i-preserved g c = λ h l a.
    let i = c.loop-i.invariant h l a in
    let r = c.in_ok-write_page.ensures (omega (arith, h, i.0.count)) (inr (omega (arith, l, i.0.more))) i.0.ready in
    let low : c.loop-i.i < 6 = omega arith in (
      moved_on g.D.Device.agrees g.D.Device.meaning g.D.GroupDevice.grouped c.loop-i.i 1 (c.loop-i.i + 1) (λ j. j < 6) (λ j. j ≡ c.loop-i.i) (λ j. j < 6) c.args.device.now c.loop-i.device c.write_page.new.device (omega arith) (λ j q. q) (λ j q. omega (arith, q, low)) i.0 r.0,
      below_more (λ j. (g.D.Device.meaning c.write_page.new.device).shown j ≡ bytes (envelope (empty_body g.K.KeyRule.rule.kind c.args.limit j))) c.loop-i.i
          (λ j q. r.0.others j (omega (arith, q, low, h, i.0.count)) (λ z. omega (arith, q, z)) ∙ i.1 j q)
          (r.1 ∙ ap bytes c.empty_store_page-page.ensures),
    )

pub returns : goal.returns
returns g c = λ h l a.
    let i = c.loop-i.invariant h l a in
    let e : c.loop-i.i ≡ 6 = omega arith in (
      subst (λ k. Moved g.D.Device.agrees g.D.Device.meaning g.D.GroupDevice.grouped k (λ j. j < 6) c.args.device.now c.loop-i.device) e i.0,
      λ j q. i.1 j (omega (arith, q, e)),
    )
