use Rattle.pages.proofs.Readings.{some_held, one_held, any_order, only_pages}
use Rattle.pages.proofs.laws.images_stand.Goals as goal

pub returns : goal.returns
returns g c =
    let R = g.K.KeyRule.rule in
    record { first = c.first_bucket.ensures; some = some_held R g.met.K.KeyRule.lawful; one = one_held R; any = any_order R; only = only_pages R }
