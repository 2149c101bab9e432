use Rattle.bucket.proofs.Leaving.{own_found, sibling_left, own_left, still_apart, still_fine, entry_split, target_falls}
use Rattle.bucket.proofs.Counting.{absent_there, counted_there}
use Rattle.bucket.proofs.laws.splits_stand.Goals as goal

pub returns : goal.returns
returns g c =
    let R = g.K.KeyRule.rule in
    let law = g.met.K.KeyRule.lawful in
    record {
      most = c.siblings_left.ensures;
      found = own_found R law;
      sibling = sibling_left R law;
      own = own_left R law;
      apart = still_apart R law;
      fine = still_fine R;
      entry = entry_split R law;
      target = target_falls R law;
      absent = absent_there R law;
      counted = counted_there R law;
    }
