use Rattle.std.proofs.Common.{sym, ap, ◌∙◌, subst}
use Rattle.device.specs.Calls.{none}
use Rattle.store.specs.Replies.{Event, event_of, replied, Shaped}
use Rattle.store.specs.Clauses.{after, Follows, Alone}
use Rattle.store.proofs.Playing.{stopped_turns, stopped_rests}
use Rattle.store.proofs.store.Store.attempt.Goals as goal

pub returns-in_default-Recover : goal.returns-in_default-Recover
returns-in_default-Recover g c =
    let s = c.args.self.now in
    let buf = c.args.buf.now in
    let r = c.recover_any.result in
    let s' = after (replied r) c.recover_any.new.self in
    let e = ap event_of (sym c.in_default-Recover.is-1) in
    record {
      shape = subst (λ (x : Event). Shaped x r) e c.recover_any.ensures.shape;
      book = subst (λ (x : Event). Follows g.K.KeyRule.rule g.D.Device.agrees g.D.Device.meaning g.D.GroupDevice.grouped x s buf (replied r) buf s') e (c.recover_any.ensures.book buf);
      alone = subst (λ (x : Event). Alone g.K.KeyRule.rule g.D.Device.agrees g.D.Device.meaning g.D.GroupDevice.grouped x s buf (replied r) buf s') e (c.recover_any.ensures.alone buf);
    }

pub returns-in-Stopped-default : goal.returns-in-Stopped-default
returns-in-Stopped-default g c = record {
  shape = tt;
  book = λ b a. (b, stopped_turns g.K.KeyRule.rule b c.args.call c.args.buf.now c.in-Stopped-default.not-Recover-1 (sym a.phases ∙ c.in-Stopped-default.is-0), a, none);
  alone = stopped_rests g.K.KeyRule.rule g.D.Device.agrees g.D.Device.meaning g.D.GroupDevice.grouped c.args.self.now c.args.call c.args.buf.now c.in-Stopped-default.not-Recover-1;
}
