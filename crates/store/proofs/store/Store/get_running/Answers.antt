use Rattle.std.proofs.Common.{sym, ◌∙◌, arith}
use Rattle.std.proofs.lemmas.Result.{err_from_is_err_and}
use Rattle.device.specs.Calls.{none}
use Rattle.pages.proofs.Looking.{shows_self}
use Rattle.store.specs.Book.{map_at}
use Rattle.store.proofs.Images.{ready_of, in_shown, agrees_kept}
use Rattle.store.proofs.Getting.{not_valid, too_short, is_found, is_absent, get_lost}
use Rattle.store.proofs.store.Store.get_running.Goals as goal

pub returns-then-not-is_valid : goal.returns-then-not-is_valid
returns-then-not-is_valid g c = record {
  shape = tt;
  book = λ b a. (b, not_valid g.K.KeyRule.rule b c.args.key.now c.args.buf.now (λ e. c.requires (a.phases ∙ e)) (sym c.is_valid.ensures ∙ c.if-not-is_valid.true), a, none);
}

pub returns-then-buf-lt-VALUE_ROOM : goal.returns-then-buf-lt-VALUE_ROOM
returns-then-buf-lt-VALUE_ROOM g c = record {
  shape = tt;
  book = λ b a. (b, too_short g.K.KeyRule.rule b c.args.key.now c.args.buf.now (λ e. c.requires (a.phases ∙ e)) (sym c.is_valid.ensures ∙ c.if-not-is_valid.false) (omega arith), a, none);
}

pub returns-in_err-found : goal.returns-in_err-found
returns-in_err-found g c =
    let p = err_from_is_err_and c.from_residual.result c.from_residual.ensures.1 in
    let q = c.in_err-found.ensures in
    rw (p.1, p.2) (record {
      shape = tt;
      book = λ b a.
          let d = c.args.self.now.device in
          let z = in_shown g.K.KeyRule.rule b (g.D.Device.meaning d) (g.D.GroupDevice.grouped d) b.phase (λ e. c.requires (a.phases ∙ e)) a.state in
          let l = q.looks (sym c.is_valid.ensures ∙ c.if-not-is_valid.false) (omega arith) (map_at b b.phase) z.1.formed (ready_of g.K.KeyRule.rule g.D.Device.agrees g.D.Device.meaning g.D.GroupDevice.grouped b c.args.self.now.phase c.args.self.now.counter c.args.self.now.changes d a c.requires) in
          get_lost g.K.KeyRule.rule g.D.Device.agrees g.D.Device.meaning g.D.GroupDevice.grouped b c.args.self.now.phase c.args.self.now.counter c.args.self.now.changes 3 d c.look_up.new.device c.args.key.now c.args.buf.now c.look_up.new.buf _ l.0 q.untouched l.1 a;
    })

pub returns-in-Some : goal.returns-in-Some
returns-in-Some g c = record {
  shape = tt;
  book = λ b a.
      let d = c.args.self.now.device in
      let o = g.D.Device.meaning d in
      let z = in_shown g.K.KeyRule.rule b o (g.D.GroupDevice.grouped d) b.phase (λ e. c.requires (a.phases ∙ e)) a.state in
      let l = c.in_ok-found.ensures.looks (sym c.is_valid.ensures ∙ c.if-not-is_valid.false) (omega arith) (map_at b b.phase) z.1.formed (ready_of g.K.KeyRule.rule g.D.Device.agrees g.D.Device.meaning g.D.GroupDevice.grouped b c.args.self.now.phase c.args.self.now.counter c.args.self.now.changes d a c.requires) in
      let t = l.1 o.count o.shown (shows_self o) in (
        b,
        is_found g.K.KeyRule.rule b c.args.key.now c.args.buf.now (λ e. c.requires (a.phases ∙ e)) (sym c.is_valid.ensures ∙ c.if-not-is_valid.false) (omega arith) c.in-Some.found c.look_up.new.buf (sym c.in-Some.is ∙ t.0) t.1,
        agrees_kept g.K.KeyRule.rule g.D.Device.agrees g.D.Device.meaning g.D.GroupDevice.grouped 3 d c.look_up.new.device b c.args.self.now.phase c.args.self.now.counter c.args.self.now.changes l.0 a,
        l.0.calls,
      );
}

pub returns-in-None : goal.returns-in-None
returns-in-None g c = record {
  shape = tt;
  book = λ b a.
      let d = c.args.self.now.device in
      let o = g.D.Device.meaning d in
      let z = in_shown g.K.KeyRule.rule b o (g.D.GroupDevice.grouped d) b.phase (λ e. c.requires (a.phases ∙ e)) a.state in
      let l = c.in_ok-found.ensures.looks (sym c.is_valid.ensures ∙ c.if-not-is_valid.false) (omega arith) (map_at b b.phase) z.1.formed (ready_of g.K.KeyRule.rule g.D.Device.agrees g.D.Device.meaning g.D.GroupDevice.grouped b c.args.self.now.phase c.args.self.now.counter c.args.self.now.changes d a c.requires) in
      let t = l.1 o.count o.shown (shows_self o) in (
        b,
        is_absent g.K.KeyRule.rule b c.args.key.now c.args.buf.now (λ e. c.requires (a.phases ∙ e)) (sym c.is_valid.ensures ∙ c.if-not-is_valid.false) (omega arith) c.look_up.new.buf (sym c.in-None.is ∙ t.0) t.1,
        agrees_kept g.K.KeyRule.rule g.D.Device.agrees g.D.Device.meaning g.D.GroupDevice.grouped 3 d c.look_up.new.device b c.args.self.now.phase c.args.self.now.counter c.args.self.now.changes l.0 a,
        l.0.calls,
      );
}
