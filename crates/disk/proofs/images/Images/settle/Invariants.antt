use Rattle.std.proofs.Common.{◌≡◌, ◌≤◌}
use Rattle.disk.specs.Arm.{bytes_of}
use Rattle.disk.specs.Image.{Swept, count_of, cut_page, rank}
use Rattle.disk.proofs.images.Images.settle.Given as goal

abbrev pub invariant-loop-i : goal.invariant-loop-i
invariant-loop-i l =
    let s = l.initial.self.settled.now in
    let w = l.initial.self.written.now in
    let k = l.initial.self.marks.now in
    record {
      turn : l.turn ≡ rank k l.i;
      few : l.turn ≤ l.i;
      written : l.self.written.now ≡ w;
      swept : Swept (cut_page s w k (bytes_of l.letters) l.kept) s k (count_of s w k) l.i l.self.settled.now l.self.marks.now;
    }
