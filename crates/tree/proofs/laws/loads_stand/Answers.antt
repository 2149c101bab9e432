use Rattle.tree.proofs.Stands.{splits, falls}
use Rattle.tree.proofs.laws.loads_stand.Goals as goal

pub returns : goal.returns
returns g c =
    let R = g.K.KeyRule.rule in
    let law = g.met.K.KeyRule.lawful in
    record {
      room = c.bucket_room.ensures;
      splits = splits R;
      falls = falls R;
    }
