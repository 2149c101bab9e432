use Rattle.std.proofs.Common.{◌/◌, ◌%◌, [], ◌∷◌, ◌++◌, length, ap, ◌∙◌}
use Rattle.disk.specs.Raw.{check_of, sealed}
use Rattle.disk.proofs.RawLaws.{seal_is}
use Rattle.disk.proofs.raw.seal.Goals as goal

pub returns : goal.returns
unfolding sealed check_of
returns c =
    let e = c.copy_from_slice.ensures.after in
    let f = c.copy_from_slice-2.ensures.after ∙ c.to_be_bytes.ensures in
    seal_is c.copy_from_slice.new.self c.copy_from_slice-2.new.self [] c.args.raw.now (ap length e ∙ c.requires.page) c.requires.raw (ap length f)
    ∙ (ap (λ t. t ++ c.copy_from_slice-2.new.self) e
    ∙ (ap (λ t. c.args.page.now ++ t) f
    ∙ ap (λ n. c.args.page.now ++ (n / 16777216 % 256) ∷ (n / 65536 % 256) ∷ (n / 256 % 256) ∷ (n % 256) ∷ []) c.crc32.ensures))
