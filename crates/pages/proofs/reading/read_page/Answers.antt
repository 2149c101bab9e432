use Rattle.std.proofs.Common.{rules}
use Rattle.pages.proofs.Looking.{looks_read}
use Rattle.pages.proofs.reading.read_page.Goals as goal

pub returns : goal.returns
returns g c = λ h. rw c.shown_page.ensures
    (looks_read g.D.Device.agrees g.D.Device.meaning g.D.GroupDevice.grouped c.args.device.now c.read-answer.new.self c.args.page _ c.read-answer.new.buf c.read-answer.result c.read-answer.ensures.does h (search rules))
