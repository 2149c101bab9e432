use Rattle.tree.proofs.Stands.{still, only, all, tested, put_splits, put_merges, delete_merges, near, order, later}
use Rattle.tree.proofs.laws.changes_stand.Goals as goal

pub returns : goal.returns
returns g c =
    let R = g.K.KeyRule.rule in
    let law = g.met.K.KeyRule.lawful in
    record {
      most = c.bucket_bits.ensures;
      still = still R;
      only = only R law;
      along = all R law;
      tested = tested R law;
      splits = put_splits R law;
      shortens = put_merges R law;
      merges = delete_merges R law;
      near = near R law;
      order = order R law;
      later = later R law;
    }
