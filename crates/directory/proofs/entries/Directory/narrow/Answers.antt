use Rattle.std.proofs.Common.{◌≡◌, suc, ◌+◌, ◌-◌, ◌*◌, ◌^◌, ◌<◌, sym, refl, ◌∙◌, subst, inr, pow-suc, arith}
use Rattle.directory.specs.Names.{at}
use Rattle.directory.specs.Changes.{NarrowedTo, Narrowest}
use Rattle.directory.proofs.Filling.{wide_is}
use Rattle.directory.proofs.Narrowing.{narrowed_more}
use Rattle.directory.proofs.entries.Directory.narrow.Goals as goal

pub returns-then-not-pairs_agree : goal.returns-then-not-pairs_agree
returns-then-not-pairs_agree c =
    let b = c.loop-bits.bits - 1 in
    let d = c.loop-bits.invariant.deep in
    let e : c.loop-bits.bits ≡ b + 1 = omega arith in
    let r = c.if-not-pairs_agree.ensures in
    let z : b + 1 ≡ suc b = omega arith in
    let l : 2 * r.0 + 1 < 2 ^ (b + 1) = subst (λ k. 2 * r.0 + 1 < 2 ^ k) (sym z) (omega (arith, r.1, wide_is b (omega (arith, c.loop-bits.auto.bits)), pow-suc 2 b)) in
    record {
      narrowed = subst (λ u. NarrowedTo c.args.self.now.depth u (at c.args.self.now.entries) (at c.loop-bits.self.entries)) (sym d) c.loop-bits.invariant.narrowed;
      least = subst (λ u. Narrowest u (at c.loop-bits.self.entries)) (sym (d ∙ e)) (inr (r.0, l, r.2));
    }

pub loop-bits-preserved : goal.loop-bits-preserved
loop-bits-preserved c =
    let b = c.loop-bits.bits - 1 in
    let e : c.loop-bits.bits ≡ suc b = omega arith in
    let z = wide_is b (omega (arith, c.loop-bits.auto.bits)) in
    record {
      deep = refl;
      narrowed = narrowed_more c.args.self.now.depth b (at c.args.self.now.entries) (at c.loop-bits.self.entries) (at c.halve.new.entries)
          (subst (λ u. NarrowedTo c.args.self.now.depth u (at c.args.self.now.entries) (at c.loop-bits.self.entries)) e c.loop-bits.invariant.narrowed)
          (λ i h. c.if-not-pairs_agree.ensures i (omega (arith, z))) (λ i h. c.halve.ensures.used i (omega (arith, z)));
    }
