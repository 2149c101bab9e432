use Rattle.std.proofs.Common.{◌≡◌, ℕ, ◌+◌, ◌^◌, ◌<◌, ◌≤◌, List, sym, ◌∙◌, subst, arith, pow_mono}
use Rattle.std.proofs.lemmas.List.{length-set, get_or_append_left}
use Rattle.std.proofs.lemmas.Result.{err_from_is_err_and}
use Rattle.std.proofs.lemmas.Option.{MatchOption-at_some, MatchOption-at_none}
use Rattle.pages.specs.Images.{shows}
use Rattle.pages.specs.Surveys.{at}
use Rattle.std.proofs.lemmas.Grind.{common_steps}
use Rattle.pages.specs.Reads.{Kept}
use Rattle.pages.specs.Gathered.{Paged}
use Rattle.pages.proofs.Looking.{kept_none, held_on, stopped_on}
use Rattle.pages.proofs.Gathering.{paged_more, not_bucket}
use Rattle.pages.proofs.check.read_buckets.Goals as goal

pub loop-i-init : goal.loop-i-init
loop-i-init g c = (let small : 2 ^ c.args.layout.now.root.depth ≤ 2 ^ 8 = pow_mono c.args.layout.now.deep in grind (arith, common_steps, c.used.ensures.wide, small), λ b a. (kept_none g.D.Device.agrees g.D.Device.meaning g.D.GroupDevice.grouped 0 c.args.device.now a, λ n f w k lt. absurd (omega (arith, lt))))

pub returns-in_err-found : goal.returns-in_err-found
returns-in_err-found g c =
    let p = err_from_is_err_and c.from_residual.result c.from_residual.ensures.1 in
    rw (p.1, p.2) (λ b a.
    let i = c.loop-i.invariant.1 b a in
    let w = c.args.layout.now.root.depth in
    let inside : c.loop-i.i < 2 ^ w = omega arith in
    let lt : at c.args.layout.now.entries c.loop-i.i < (g.D.Device.meaning c.loop-i.device).count = omega (arith, b c.loop-i.i inside, i.0.same.count) in
    stopped_on g.D.Device.agrees g.D.Device.meaning g.D.GroupDevice.grouped c.loop-i.i 1 (2 ^ w) c.args.device.now c.loop-i.device c.read_named.new.device _ (omega arith) i (c.in_err-found.ensures lt i.0.ready))

pub returns-in_default : goal.returns-in_default
returns-in_default g c = λ b a.
    let i = c.loop-i.invariant.1 b a in
    let w = c.args.layout.now.root.depth in
    let inside : c.loop-i.i < 2 ^ w = omega arith in
    let lt : at c.args.layout.now.entries c.loop-i.i < (g.D.Device.meaning c.loop-i.device).count = omega (arith, b c.loop-i.i inside, i.0.same.count) in
    held_on g.D.Device.agrees g.D.Device.meaning g.D.GroupDevice.grouped c.loop-i.i 1 (2 ^ w) c.args.device.now c.loop-i.device c.read_named.new.device (omega arith) i (c.in_ok-found.ensures lt i.0.ready)
    (λ n f x y. not_bucket g.K.KeyRule.rule (λ k. shows (f (at c.args.layout.now.entries k))) w c.loop-i.i (2 ^ w) inside (MatchOption-at_none _ _ c.in_default.is y))

pub loop-i-preserved : goal.loop-i-preserved
loop-i-preserved g c = (
  length-set c.loop-i.used c.loop-i.i _ ∙ c.loop-i.invariant.0,
  λ b a.
      let i = c.loop-i.invariant.1 b a in
      let w = c.args.layout.now.root.depth in
      let inside : c.loop-i.i < 2 ^ w = omega arith in
      let lt : at c.args.layout.now.entries c.loop-i.i < (g.D.Device.meaning c.loop-i.device).count = omega (arith, b c.loop-i.i inside, i.0.same.count) in
      let small : 2 ^ w ≤ 2 ^ 8 = pow_mono c.args.layout.now.deep in
      held_on g.D.Device.agrees g.D.Device.meaning g.D.GroupDevice.grouped c.loop-i.i 1 (c.loop-i.i + 1) c.args.device.now c.loop-i.device c.read_named.new.device (omega arith) i (c.in_ok-found.ensures lt i.0.ready)
      (λ n f x y.
      let P : ℕ → List ℕ = λ k. shows (f (at c.args.layout.now.entries k)) in
      paged_more g.K.KeyRule.rule P w c.loop-i.used c.loop-i.i c.in-Some.found (omega (arith, small, inside, c.loop-i.invariant.0)) (MatchOption-at_some _ _ c.in-Some.found c.in-Some.is y) x),
)

pub returns : goal.returns
returns g c = λ b a.
    let w = c.args.layout.now.root.depth in
    let i = c.loop-i.invariant.1 b a in
    let e : c.loop-i.i ≡ 2 ^ w = omega (arith, c.loop-i.invariant.0) in
    (subst (λ m. Kept g.D.Device.agrees g.D.Device.meaning g.D.GroupDevice.grouped m c.args.device.now c.loop-i.device) e i.0, λ n f s k l. subst (Paged g.K.KeyRule.rule (shows (f (at c.args.layout.now.entries k))) w k) (sym (get_or_append_left c.loop-i.used _ _ k (omega (arith, l, c.loop-i.invariant.0)))) (i.1 n f s k (omega arith)))
