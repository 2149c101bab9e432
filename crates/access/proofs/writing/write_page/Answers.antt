use Rattle.access.proofs.Moving.{write_moves}
use Rattle.access.proofs.writing.write_page.Goals as goal

pub returns : goal.returns
returns g c = λ h room a. write_moves g.D.Device.agrees g.D.Device.meaning g.D.GroupDevice.grouped g.D.Device.sound c.args.device.now c.write.new.self c.args.page c.args.buf.now a c.write.result c.write.ensures.does h room c.told-buf
