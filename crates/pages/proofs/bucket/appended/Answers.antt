use Rattle.std.proofs.Common.{length, ap, arith, length-append}
use Rattle.std.proofs.lemmas.Result.{err_from_is_err_and}
use Rattle.pages.specs.Records.{viewed}
use Rattle.pages.proofs.Codec.{record_length}
use Rattle.pages.proofs.bucket.appended.Goals as goal

pub returns-in_err-add_record : goal.returns-in_err-add_record
returns-in_err-add_record c =
    let p = err_from_is_err_and c.from_residual-in_err-add_record.result c.from_residual-in_err-add_record.ensures.1 in
    let f = c.in_err-add_record.ensures _ c.in_ok-page.ensures in
    let l = record_length (viewed c.args.stored) in
    rw p.1 (record { bytes = omega (arith, f.0, l, length-append c.args.bytes.now); records = λ rs e. omega (arith, f.0, ap length e, l, length-append c.args.bytes.now) })
