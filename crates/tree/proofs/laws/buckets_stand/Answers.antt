use Rattle.tree.proofs.Stands.{one_bucket, names, listed, equal}
use Rattle.tree.proofs.laws.buckets_stand.Goals as goal

pub returns : goal.returns
returns g c =
    let R = g.K.KeyRule.rule in
    let law = g.met.K.KeyRule.lawful in
    record {
      bits = c.bucket_bits.ensures;
      one = one_bucket R;
      named = names R;
      listed = listed R;
      equal = equal R law;
    }
