use Rattle.bucket.proofs.Joining.{beside_kept, siblings_joined, merged_up}
use Rattle.bucket.proofs.laws.merges_stand.Goals as goal

pub returns : goal.returns
returns g c =
    let R = g.K.KeyRule.rule in
    let law = g.met.K.KeyRule.lawful in
    record {
      most = c.merged_bytes.ensures;
      beside = beside_kept R law;
      joined = siblings_joined R law;
      up = merged_up R law;
    }
