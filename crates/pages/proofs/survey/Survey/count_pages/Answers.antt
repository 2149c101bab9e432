-- The walk along the directory meets each bucket once.
use Rattle.std.proofs.Common.{ℕ, ◌+◌, ◌-◌, ◌^◌, ◌<◌, sym, ◌∙◌, subst, arith, pow_pos}
use Rattle.tree.specs.Trees.{buckets}
use Rattle.tree.proofs.Visits.{Tiles, buckets_tile, walk_turn, walk_done}
use Rattle.tree.proofs.Listing.{listed_bucket}
use Rattle.tree.proofs.Recovering.{directory_deep, no_longer}
use Rattle.pages.specs.Surveys.{depth_at}
use Rattle.pages.proofs.survey.Survey.count_pages.Goals as goal

pub loop-i-init : goal.loop-i-init
loop-i-init c = (
  omega arith,
  λ L s f.
      let w = c.args.self.now.root.depth in
      let d : ℕ → ℕ = depth_at c.args.self.now.buckets.now in (
        buckets L,
        omega arith,
        buckets_tile L w (directory_deep L s w c.args.self.now.deep d c.args.self.now.narrow f) c.args.self.now.deep,
        λ b i. (no_longer L s w c.args.self.now.deep d c.args.self.now.narrow f b i, (listed_bucket L b i).2),
      ),
)

pub loop-i-preserved : goal.loop-i-preserved
loop-i-preserved c =
    let w = c.args.self.now.root.depth in
    let d : ℕ → ℕ = depth_at c.args.self.now.buckets.now in
    let i = c.loop-i.i in
    let h : i < 2 ^ w = omega (arith, c.loop-i-test.true, c.args.self.now.buckets_wide) in (
      omega (arith, c.width-i.ensures, pow_pos (w - d i), c.loop-i.invariant.0),
      λ L s f.
          let v = c.loop-i.invariant.1 L s f in
          let r = walk_turn L w v.0 i (2 ^ w) (d i) c.loop-i.n v.3 h (f i h) v.2 in
          (r.0, r.1 ∙ v.1, subst (λ k. Tiles w r.0 (i + k) (2 ^ w)) (sym c.width-i.ensures) r.2, r.3),
    )

pub returns : goal.returns
returns c = λ L s f.
    let v = c.loop-i.invariant.1 L s f in
    omega (arith, v.1, walk_done c.args.self.now.root.depth v.0 c.loop-i.i (2 ^ c.args.self.now.root.depth) v.2 (omega (arith, c.loop-i-test.false, c.args.self.now.buckets_wide)))
