use Rattle.std.proofs.lemmas.Result.{err_from_is_err_and}
use Rattle.journal.specs.Waiting.{waiting}
use Rattle.journal.specs.Sending.{step3, step4}
use Rattle.journal.proofs.Sent.{stopped, and_then}
use Rattle.journal.proofs.Finish.{lay_lost, clear_ready, laid_and_cleared}
use Rattle.journal.proofs.steps.finish.Goals as goal

pub returns-in_err-settle_entries : goal.returns-in_err-settle_entries
returns-in_err-settle_entries g c =
    let p = err_from_is_err_and c.from_residual.result c.from_residual.ensures.1 in
    let s = c.in_err-settle_entries.ensures in
    let meaning = g.D.Device.meaning in
    let es = waiting c.args.entries.now in
    let a = c.args.below.now in
    let d = c.settle_entries.new.below in
    record {
      agrees = s.agrees;
      makes = λ h t. rw (p.1, p.2) (stopped meaning (step3 es) step4 c.in_err-settle_entries.field-0.0 a d (s.makes h t));
      finished = λ h T base lr. rw (p.1, p.2) (let x = s.settled h lr.ready in (x.0, lay_lost T es base (meaning a) lr (meaning d) x.1));
    }

pub returns : goal.returns
returns g c =
    let s = c.in_ok-settle_entries.ensures in
    let k = c.clear.ensures in
    let meaning = g.D.Device.meaning in
    let sound = g.D.Device.sound in
    let es = waiting c.args.entries.now in
    let a = c.args.below.now in
    let o = c.settle_entries.new.below in
    let e = c.clear.new.below in
    record {
      agrees = λ h. k.agrees (s.agrees h);
      makes = λ h t. and_then meaning (step3 es) step4 c.clear.result a o e t (s.makes h t) (k.makes (s.agrees h));
      finished = λ h T base lr.
          let x = s.settled h lr.ready in
          laid_and_cleared g.D.Device.agrees meaning sound T es base a lr h x.0 x.1 x.2 o x.3 c.clear.result e
          (k.set (s.agrees h) (clear_ready T es base (meaning a) lr (sound a h) (meaning x.0) x.2 (sound x.0 x.1) (meaning o) x.3));
    }
