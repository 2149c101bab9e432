use Rattle.std.proofs.Common.{◌≡◌, ◌≤◌, map, take}
use Rattle.journal.proofs.Parsing.{word}
use Rattle.journal.proofs.header.targets_in.Given as goal

abbrev pub invariant-loop-pair : goal.invariant-loop-pair
invariant-loop-pair l = (l.found.items ≡ map word (take l.pair-index l.pairs)) × (l.pair-index ≤ 64)
