use Rattle.std.proofs.Common.{refl, rules}
use Rattle.disk.specs.Image.{current, marked}
use Rattle.disk.proofs.RawLaws.{shown_page}
use Rattle.disk.proofs.images.Images.page.Goals as goal
use Rattle.disk.proofs.images.Images.page.Goals.{then-self-i-ne0, else-self-i-ne0}

pub returns : goal.returns
unfolding current marked
returns c =
    shown_page _ _ _ _ _ c.then_some.ensures c.good.ensures refl
    (elim c.if-self-i-ne0.branch [ then-self-i-ne0 w ↦ search rules | else-self-i-ne0 w ↦ search rules ])
