use Rattle.std.proofs.Common.{subst}
use Rattle.store.specs.declared.store.Store.{Store}
use Rattle.store.specs.Replies.{event_of, replied}
use Rattle.store.specs.Clauses.{Follows, Alone}
use Rattle.store.proofs.Playing.{not_eleven, after_other}
use Rattle.store.proofs.store.Store.step.Goals as goal

pub returns-in_default : goal.returns-in_default
returns-in_default g c =
    let r = c.attempt-answer.result in
    let s' = c.attempt-answer.new.self in
    let e = after_other (replied r) s' (not_eleven r c.in_default.not-Err) in
    record {
      shape = c.attempt-answer.ensures.shape;
      book = subst (λ (x : Store g.row.D.Denot g.row.K.Denot). Follows g.K.KeyRule.rule g.D.Device.agrees g.D.Device.meaning g.D.GroupDevice.grouped (event_of c.args.call) c.args.self.now c.args.buf.now (replied r) c.attempt-answer.new.buf x) e c.attempt-answer.ensures.book;
      alone = subst (λ (x : Store g.row.D.Denot g.row.K.Denot). Alone g.K.KeyRule.rule g.D.Device.agrees g.D.Device.meaning g.D.GroupDevice.grouped (event_of c.args.call) c.args.self.now c.args.buf.now (replied r) c.attempt-answer.new.buf x) e c.attempt-answer.ensures.alone;
    }
