use Rattle.std.proofs.Common.{ℕ, List, ◌++◌, Ok, Err, subst}
use Rattle.std.proofs.lemmas.Result.{err_from_is_err_and}
use Rattle.journal.specs.Waiting.{waiting}
use Rattle.journal.specs.Sending.{heading, Makes, step1, step2, step3, step4}
use Rattle.journal.specs.Writing.{HeadLost, HeadSet}
use Rattle.journal.proofs.Sent.{stopped, and_then}
use Rattle.journal.proofs.Finish.{bodies_ready, naming_ready, naming_lost, lay_ready, committed as all_committed}
use Rattle.journal.proofs.steps.commit.Goals as goal

pub returns-in_err-settle_entries-clause-makes : goal.returns-in_err-settle_entries-clause-makes
returns-in_err-settle_entries-clause-makes g c =
    let p = err_from_is_err_and c.from_residual.result c.from_residual.ensures.1 in
    let es = waiting c.args.entries.now in
    λ h t. rw (p.1, p.2) (stopped g.D.Device.meaning (step1 es) (step2 es ++ (step3 es ++ step4)) c.in_err-settle_entries.field-0.0 c.args.below.now c.settle_entries.new.below (c.in_err-settle_entries.ensures.makes h t))

pub returns-in_err-set_header : goal.returns-in_err-set_header
returns-in_err-set_header g c =
    let p = err_from_is_err_and c.from_residual-in_err-set_header.result c.from_residual-in_err-set_header.ensures.1 in
    let s = c.in_ok-settle_entries.ensures in
    let k = c.in_err-set_header.ensures in
    let meaning = g.D.Device.meaning in
    let sound = g.D.Device.sound in
    let es = waiting c.args.entries.now in
    let a = c.args.below.now in
    let o = c.settle_entries.new.below in
    let e = c.set_header.new.below in
    let f = c.in_err-set_header.field-0.0 in
    record {
      agrees = λ h. k.agrees (s.agrees h);
      makes = λ h t. rw (p.1, p.2) (and_then meaning (step1 es) (step2 es ++ (step3 es ++ step4)) (Err f) a o e t (s.makes h t)
          (λ u. stopped meaning (step2 es) (step3 es ++ step4) f o e (subst (λ (b : List ℕ). Makes meaning (heading b) (Err f) o e) c.header_of.ensures (k.makes (s.agrees h) u))));
      committed = λ h T base cr. rw (p.1, p.2) (
          let x = s.settled h (bodies_ready T es base (meaning a) cr) in
          let y = k.set (s.agrees h) (naming_ready T es base (meaning a) cr (meaning x.0) x.2 (sound x.0 x.1) (meaning o) x.3) in (
            y.0,
            naming_lost T es base (meaning a) cr (meaning x.0) x.2 (sound x.0 x.1) (meaning o) x.3 (meaning e)
                (subst (λ (b : List ℕ). HeadLost b (meaning o) (meaning e)) c.header_of.ensures y.1),
          ));
    }

pub returns : goal.returns
returns g c =
    let s = c.in_ok-settle_entries.ensures in
    let k = c.in_ok-set_header.ensures in
    let z = c.finish.ensures in
    let meaning = g.D.Device.meaning in
    let sound = g.D.Device.sound in
    let es = waiting c.args.entries.now in
    let a = c.args.below.now in
    let o = c.settle_entries.new.below in
    let t = c.set_header.new.below in
    let e = c.finish.new.below in
    let r = c.finish.result in
    record {
      agrees = λ h. z.agrees (k.agrees (s.agrees h));
      makes = λ h up. and_then meaning (step1 es) (step2 es ++ (step3 es ++ step4)) r a o e up (s.makes h up)
          (λ u. and_then meaning (step2 es) (step3 es ++ step4) r o t e u (subst (λ (b : List ℕ). Makes meaning (heading b) (Ok tt) o t) c.header_of.ensures (k.makes (s.agrees h) u))
          (z.makes (k.agrees (s.agrees h))));
      committed = λ h T base cr.
          let x = s.settled h (bodies_ready T es base (meaning a) cr) in
          let y = subst (λ (b : List ℕ). HeadSet g.D.Device.agrees meaning b o (Ok tt) t) c.header_of.ensures
          (k.set (s.agrees h) (naming_ready T es base (meaning a) cr (meaning x.0) x.2 (sound x.0 x.1) (meaning o) x.3)) in
          all_committed T es base (meaning a) cr (meaning x.0) x.2 (sound x.0 x.1) (meaning o) x.3 (meaning y.0) y.2 (sound y.0 y.1) (meaning t) y.3 (meaning e) r
          (z.finished (k.agrees (s.agrees h)) T base
          (lay_ready T es base (meaning a) cr (meaning x.0) x.2 (sound x.0 x.1) (meaning o) x.3 (meaning y.0) y.2 (sound y.0 y.1) (meaning t) y.3));
    }
