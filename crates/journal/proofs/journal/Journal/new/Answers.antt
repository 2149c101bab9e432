use Rattle.std.proofs.Common.{refl}
use Rattle.journal.proofs.Layer.{new_agrees, group_of}
use Rattle.journal.proofs.journal.Journal.new.Goals as goal

pub returns-clause-sound : goal.returns-clause-sound
returns-clause-sound g c = λ h. group_of g.D.Device.agrees g.D.Device.meaning g.D.Device.sound _ (new_agrees g.D.Device.agrees g.D.Device.meaning g.D.Device.sound _ c.args.below refl refl c.new.ensures h)
