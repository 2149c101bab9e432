use Rattle.std.proofs.Common.{◌≡◌, ℕ, suc, ◌+◌, ◌^◌, ◌<◌, sym, refl, ap, ◌∙◌, subst, add-one, arith}
use Rattle.tree.specs.Prefix.{pre, sib}
use Rattle.directory.specs.Names.{at, assigned, NoneFree, FirstFree, Beyond}
use Rattle.directory.specs.Changes.{SplitTo}
use Rattle.directory.proofs.Paths.{Reached, reached_none, reached_more, reached_short}
use Rattle.directory.proofs.entries.Directory.split_path.Goals as goal

pub loop-j-init : goal.loop-j-init
loop-j-init c =
    let a = c.args in
    record { deep = refl; reached = λ w E d s f. reached_none w a.self.now.depth a.limit a.hash a.bits a.target E d s f.wider c.requires.within (omega arith) (at a.self.now.entries) f }

pub returns-in_default-clause-split : goal.returns-in_default-clause-split
returns-in_default-clause-split c w E d s f =
    let a = c.args in
    let none = subst (λ v. NoneFree v a.limit (at c.loop-j.self.entries)) c.loop-j.invariant.deep c.in_default.ensures in
    reached_short w a.self.now.depth a.limit a.hash a.bits a.target E d s f.wider c.requires.within (omega arith) c.loop-j.j c.loop-j.auto.j c.loop-j-test.true (at c.loop-j.self.entries)
    (c.loop-j.invariant.reached w E d s f) none

pub loop-j-preserved : goal.loop-j-preserved
loop-j-preserved c =
    let a = c.args in
    let v = a.self.now.depth in
    let j = c.loop-j.j in
    let F = at c.loop-j.self.entries in
    let G = at c.assign.new.self.entries in
    let same = c.loop-j.invariant.deep in
    let q = subst (λ v. FirstFree v a.limit F c.in-Some.page) same c.in-Some.ensures in
    let e : j + 1 ≡ suc j = add-one j in
    let beside : c.sibling-sibling.result ≡ sib (pre 32 a.hash (suc j)) = c.sibling-sibling.ensures ∙ ap sib (c.prefix.ensures ∙ ap (pre 32 a.hash) e) in
    record {
      deep = c.assign.ensures.depth ∙ same;
      reached = λ w E d s f.
          let r = c.loop-j.invariant.reached w E d s f in
          subst (λ k. Reached w v a.limit a.hash a.bits k E d G) (sym e)
          (reached_more w v a.limit a.hash a.bits a.target E d s f.wider c.requires.within (omega arith) j c.loop-j.auto.j c.loop-j-test.true F G
          c.in-Some.page r q.low q.high q.free
          (λ i h. subst (λ (u : ℕ). i < 2 ^ u → G i ≡ assigned u (j + 1) c.sibling-sibling.result c.in-Some.page F i) same (c.assign.ensures.used i) h
          ∙ ap (λ k. assigned v k c.sibling-sibling.result c.in-Some.page F i) e
          ∙ ap (λ p. assigned v (suc j) p c.in-Some.page F i) beside)
          (λ i h k. subst (λ u. Beyond u F G) same c.assign.ensures.rest i h ∙ r.split.unused i h k));
    }

pub returns-clause-split : goal.returns-clause-split
returns-clause-split c w E d s f =
    let a = c.args in
    let r = c.loop-j.invariant.reached w E d s f in
    let e : c.loop-j.j ≡ a.target = omega (arith, c.loop-j.auto.j-end s.fits.3) in
    (r.depths, subst (λ k. SplitTo w a.self.now.depth a.limit a.hash a.bits k E d (at c.loop-j.self.entries) r.depths) e r.split)
