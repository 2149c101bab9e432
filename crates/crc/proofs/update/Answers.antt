use Rattle.std.proofs.Common.{sym, ap, ◌∙◌}
use Rattle.crc.specs.Crc32.{register}
use Rattle.crc.proofs.Register.{register_append}
use Rattle.crc.proofs.update.Goals as goal

pub returns : goal.returns
returns c =
    let bs = c.args.bytes.now in
    let v = c.enter.ensures in
    record { value = v; parts = λ xs h. v ∙ (ap (λ s. register s bs) h ∙ sym (register_append 0xFFFF_FFFF xs bs)) }
