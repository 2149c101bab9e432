use Rattle.std.proofs.Common.{ℕ, ◌<◌, ◌≤◌, rules}
use borrow.Author.Tests.{tests}
use Rattle.std.proofs.lemmas.Iterator.{first_from_Range}
use Rattle.tree.specs.Trees.{room}
use Rattle.bucket.specs.Sifts.{own_load}
use Rattle.bucket.proofs.Sifting.{first_room}
use Rattle.bucket.proofs.change.KeyChange.target_bits.Goals as goal

pub returns : goal.returns
returns g c = λ rs e.
    let load : ℕ → ℕ = own_load g.K.KeyRule.rule c.args.self.key.now c.args.hash c.args.more rs in
    first_room load c.args.bits c.find.result
    (first_from_Range _ _ _ c.find.result (λ n. load n ≤ room) (λ n. room < load n) c.find.ensures.ran (λ x q k. search (rules, tests)) (λ x q k. search (rules, tests)))
