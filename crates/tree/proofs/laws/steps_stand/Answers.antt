use Rattle.tree.proofs.Stands.{split_holds, merge_holds, tells, stops, up, free}
use Rattle.tree.proofs.laws.steps_stand.Goals as goal

pub returns : goal.returns
returns g c =
    let R = g.K.KeyRule.rule in
    let law = g.met.K.KeyRule.lawful in
    record {
      most = c.buckets_written.ensures;
      split = split_holds R law;
      merged = merge_holds R law;
      tells = tells R law;
      stops = stops R;
      up = up R law;
      free = free;
    }
