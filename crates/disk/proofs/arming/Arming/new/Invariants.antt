use Rattle.std.proofs.Common.{◌≡◌, take, drop}
use Rattle.disk.specs.Arm.{all_letters, bytes_of}
use Rattle.disk.proofs.arming.Arming.new.Given as goal

abbrev pub invariant-loop-x : goal.invariant-loop-x
invariant-loop-x l = record {
  rest : all_letters (drop l.x-index l.letters) ≡ all_letters l.letters;
  known : bytes_of l.known.items ≡ take l.x-index l.letters;
}
