use Rattle.std.proofs.Common.{◌≡◌, ℕ, List, [], length, Ok, refl, subst, arith}
use Rattle.std.proofs.lemmas.Result.{err_from_is_err_and}
use Rattle.store.specs.declared.kinds.Answer.{Answer}
use Rattle.store.specs.Replies.{Event, replied, refused_by, recover, done}
use Rattle.store.specs.Clauses.{Follows, Alone}
use Rattle.store.proofs.Playing.{unbuffered}
use Rattle.store.proofs.store.Store.recover.Goals as goal

pub returns-in_err-step : goal.returns-in_err-step
returns-in_err-step g c =
    let p = err_from_is_err_and c.from_residual.result c.from_residual.ensures.1 in
    let q = c.in_err-step.ensures in
    let f = refused_by c.in_err-step.field-0.0 in
    let l : length c.step.new.buf ≡ 0 = omega arith in
    rw (p.1, p.2) (record {
      book = unbuffered _ recover c.step.new.buf refl l (λ (e : Event) (b : List ℕ). Follows g.K.KeyRule.rule g.D.Device.agrees g.D.Device.meaning g.D.GroupDevice.grouped e c.args.self.now [] f b c.step.new.self) q.book;
      alone = unbuffered _ recover c.step.new.buf refl l (λ (e : Event) (b : List ℕ). Alone g.K.KeyRule.rule g.D.Device.agrees g.D.Device.meaning g.D.GroupDevice.grouped e c.args.self.now [] f b c.step.new.self) q.alone;
    })

pub returns : goal.returns
returns g c =
    let q = c.in_ok-step.ensures in
    let l : length c.step.new.buf ≡ 0 = omega arith in
    record {
      book = unbuffered _ recover c.step.new.buf refl l (λ (e : Event) (b : List ℕ). Follows g.K.KeyRule.rule g.D.Device.agrees g.D.Device.meaning g.D.GroupDevice.grouped e c.args.self.now [] done b c.step.new.self)
          (subst (λ (a : Answer). Follows g.K.KeyRule.rule g.D.Device.agrees g.D.Device.meaning g.D.GroupDevice.grouped recover c.args.self.now [] (replied (Ok a)) c.step.new.buf c.step.new.self) c.in-Done.is q.book);
      alone = unbuffered _ recover c.step.new.buf refl l (λ (e : Event) (b : List ℕ). Alone g.K.KeyRule.rule g.D.Device.agrees g.D.Device.meaning g.D.GroupDevice.grouped e c.args.self.now [] done b c.step.new.self)
          (subst (λ (a : Answer). Alone g.K.KeyRule.rule g.D.Device.agrees g.D.Device.meaning g.D.GroupDevice.grouped recover c.args.self.now [] (replied (Ok a)) c.step.new.buf c.step.new.self) c.in-Done.is q.alone);
    }
