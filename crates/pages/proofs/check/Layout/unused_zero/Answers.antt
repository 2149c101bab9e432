use Rattle.std.proofs.Common.{◌≡◌, ◌^◌, ◌≤◌, rules, arith, pow_mono}
use borrow.Author.Tests.{tests}
use Rattle.std.proofs.lemmas.Iterator.{cases_from_all, YieldsList-from_slice}
use Rattle.pages.proofs.Entries.{last_all}
use Rattle.pages.proofs.check.Layout.unused_zero.Goals as goal

pub returns : goal.returns
returns c =
    let w = c.args.self.now.root.depth in
    let d : 2 ^ w ≤ 2 ^ 8 = pow_mono c.args.self.now.deep in
    last_all (λ x. x ≡ 0) c.all.result c.args.self.now.entries c.unused.result.now (2 ^ w) 256 (omega arith) c.unused.ensures (omega (arith, d))
    (cases_from_all _ _ _ (λ x. x ≡ 0) (λ x. x ≡ 0 → ⊥) c.all.ensures.ran (YieldsList-from_slice _ c.iter.ensures.rest) (λ x q k. search (rules, tests)) (λ x q k. search (rules, tests)))
