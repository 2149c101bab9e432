use Rattle.bucket.proofs.Counting.{key_told}
use Rattle.bucket.proofs.change.KeyChange.has_key.Goals as goal

pub returns : goal.returns
returns g c = λ rs e. key_told g.K.KeyRule.rule c.args.self.key.now rs c.find.result c.is_some.result c.is_some.ensures (c.find.ensures rs e)
