use Rattle.tree.proofs.Stands.{siblings, recovers, parted, deep, found, widened, narrowed}
use Rattle.tree.proofs.laws.directories_stand.Goals as goal

pub returns : goal.returns
returns g c =
    let R = g.K.KeyRule.rule in
    let law = g.met.K.KeyRule.lawful in
    record {
      entries = c.directory_entries.ensures;
      siblings = siblings R;
      recovers = recovers R;
      parted = parted R;
      deep = deep R;
      found = found R law;
      widened = widened R;
      narrowed = narrowed R;
    }
