use Rattle.std.proofs.Common.{take}
use Rattle.layout.specs.Envelope.{Enveloped}
use Rattle.journal.specs.Header.{two_bytes}
use Rattle.journal.proofs.header.header_of.Given as goal

abbrev pub invariant-loop-target : goal.invariant-loop-target
invariant-loop-target l = Enveloped l.page (two_bytes (take l.target-index l.target-items))
