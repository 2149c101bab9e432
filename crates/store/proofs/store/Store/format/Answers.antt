use Rattle.std.proofs.Common.{arith}
use Rattle.store.proofs.Standing.{made_idle}
use Rattle.store.proofs.store.Store.format.Goals as goal

pub returns : goal.returns
returns g c = λ a.
    let d = c.args.self.now.device in
    let m = c.in_ok-make_empty_store.ensures (omega (arith, c.page_count-pages.ensures)) a in (
      made_idle g.K.KeyRule.rule g.D.Device.agrees g.D.Device.meaning g.D.GroupDevice.grouped c.page_count-pages.result c.most_buckets.result c.args.self.now.counter d c.make_empty_store.new.device c.page_count-pages.ensures c.most_buckets.ensures (omega arith) m,
      m.calls,
    )
