use Rattle.disk.proofs.SweepLaws.{count_marks, fill_front}
use Rattle.disk.proofs.images.Images.clear.Goals as goal

pub returns-clause-marks : goal.returns-clause-marks
returns-clause-marks c =
    let d = c.args.self.now in
    fill_front c.count-n.result _ d.marks.now c.fill.new.self c.count-n.ensures (count_marks d.settled.now d.written.now d.marks.now) (c.fill.ensures.after (λ y e. e))
