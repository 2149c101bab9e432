use Rattle.disk.specs.Raw.{chosen}
use Rattle.disk.proofs.images.Images.left.Goals as goal

pub returns-in-Old : goal.returns-in-Old
unfolding chosen
returns-in-Old c = rw c.in-Old.is c.page_of-old.ensures

pub returns-in-New : goal.returns-in-New
unfolding chosen
returns-in-New c = rw c.in-New.is c.page_of-new.ensures

pub returns-in-Torn : goal.returns-in-Torn
unfolding chosen
returns-in-Torn c = rw (c.in-Torn.is, ← c.page_of-old.ensures, ← c.page_of-new.ensures) c.torn.ensures
