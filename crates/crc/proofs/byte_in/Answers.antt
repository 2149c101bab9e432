use Rattle.crc.proofs.Sliced.{byte_looked_up}
use Rattle.crc.proofs.byte_in.Goals as goal

pub returns : goal.returns
returns c = simp c.low_in.ensures (byte_looked_up c.args.state c.args.byte)
