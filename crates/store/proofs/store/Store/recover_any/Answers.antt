use Rattle.std.proofs.Common.{refl, arith}
use Rattle.std.proofs.lemmas.Result.{err_from_is_err_and}
use Rattle.device.specs.Calls.{none}
use Rattle.access.proofs.Making.{restarted}
use Rattle.store.proofs.Opening.{restart_lost, restart_unopened, check_done, check_opens, check_fails, check_denies}
use Rattle.store.proofs.store.Store.recover_any.Goals as goal

pub returns-then-page_count-lt-FEWEST_PAGES : goal.returns-then-page_count-lt-FEWEST_PAGES
returns-then-page_count-lt-FEWEST_PAGES g c = record {
  shape = tt;
  book = λ buf b a. absurd (omega (arith, a.pages, c.page_count.ensures, c.if-page_count-lt-FEWEST_PAGES.true));
  alone = λ buf o. (none, (omega (arith, c.page_count.ensures, c.if-page_count-lt-FEWEST_PAGES.true), refl), refl);
}

pub returns-in_err-restart : goal.returns-in_err-restart
returns-in_err-restart g c =
    let p = err_from_is_err_and c.from_residual.result c.from_residual.ensures.1 in
    let r = c.in_err-restart.ensures.does in
    rw (p.1, p.2) (record {
      shape = tt;
      book = λ buf b a. restart_lost g.K.KeyRule.rule g.met.K.KeyRule.lawful g.D.Device.agrees g.D.Device.meaning g.D.GroupDevice.grouped c.args.self.now c.restart.new.self _ r buf b a;
      alone = λ buf o. let z = restart_unopened g.K.KeyRule.rule g.met.K.KeyRule.lawful g.D.Device.agrees g.D.Device.meaning g.D.GroupDevice.grouped c.args.self.now c.restart.new.self _ r o in (z.0, z.1, refl);
    })

pub returns-in_err-check_image : goal.returns-in_err-check_image
returns-in_err-check_image g c =
    let p = err_from_is_err_and c.from_residual-in_err-check_image.result c.from_residual-in_err-check_image.ensures.1 in
    let s = c.args.self.now in
    let e = c.restart.new.self in
    let x = c.in_err-check_image.field-0.0 in
    let r = c.in_ok-restart.ensures.does in
    rw (p.1, p.2) (record {
      shape = tt;
      book = λ buf b a.
          let q = c.in_err-check_image.ensures (restarted g.D.Device.agrees g.D.Device.meaning g.D.GroupDevice.grouped s.device e _ a.below r) in
          check_fails g.K.KeyRule.rule g.met.K.KeyRule.lawful g.D.Device.agrees g.D.Device.meaning g.D.GroupDevice.grouped s e _ r c.check_image.new.device 261 x q buf b a;
      alone = λ buf o.
          let q = c.in_err-check_image.ensures (restarted g.D.Device.agrees g.D.Device.meaning g.D.GroupDevice.grouped s.device e _ o.below r) in
          let z = check_denies g.K.KeyRule.rule g.met.K.KeyRule.lawful g.D.Device.agrees g.D.Device.meaning g.D.GroupDevice.grouped s e _ r c.check_image.new.device 261 x q o in
          (z.0, z.1, refl);
    })

pub returns : goal.returns
returns g c =
    let s = c.args.self.now in
    let e = c.restart.new.self in
    let r = c.in_ok-restart.ensures.does in
    record {
      shape = tt;
      book = λ buf b a.
          let q = c.in_ok-check_image.ensures (restarted g.D.Device.agrees g.D.Device.meaning g.D.GroupDevice.grouped s.device e _ a.below r) in
          check_done g.K.KeyRule.rule g.met.K.KeyRule.lawful g.D.Device.agrees g.D.Device.meaning g.D.GroupDevice.grouped s e _ r c.check_image.new.device 261 q.0 buf b a;
      alone = λ buf o.
          let q = c.in_ok-check_image.ensures (restarted g.D.Device.agrees g.D.Device.meaning g.D.GroupDevice.grouped s.device e _ o.below r) in
          let z = check_opens g.K.KeyRule.rule g.met.K.KeyRule.lawful g.D.Device.agrees g.D.Device.meaning g.D.GroupDevice.grouped s e _ r c.check_image.new.device 261 q.0 (λ n f w. (q.1 n f w).0) o (omega (arith, c.page_count.ensures)) in
          (z.0, z.1, refl);
    }
