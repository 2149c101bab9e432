use Rattle.std.proofs.Common.{◌≡◌, ◌+◌, ◌*◌, get_or, arith, rules, ltb-true}
use Rattle.pages.proofs.Codec.{reads, record_starts}
use Rattle.pages.proofs.records.next_record.Goals as goal

pub returns-in_default : goal.returns-in_default
returns-in_default c = λ x rest e. let s = record_starts c.args.bytes.now x rest e in omega (arith, ltb-true, s.0)

pub returns-then-not-has_record : goal.returns-then-not-has_record
returns-then-not-has_record c = λ x rest e.
    let s = record_starts c.args.bytes.now x rest e in
    let w : c.from-whole.result ≡ get_or c.args.bytes.now 0 0 * 256 + get_or c.args.bytes.now 1 0 = search rules in
    c.if-not-has_record.ensures (omega (arith, s.1, s.2, w), omega (arith, s.1, s.3, w))

pub returns : goal.returns
returns c =
    let h = c.if-not-has_record.ensures in
    let w : c.from-whole.result ≡ get_or c.args.bytes.now 0 0 * 256 + get_or c.args.bytes.now 1 0 = search rules in
    reads c.args.bytes.now _ c.from-key_len.result c.from_be_bytes-day.result (λ i. omega (arith, c.type_inv.bytes i)) (omega arith) (omega (arith, w)) c.from-key_len.ensures c.from_be_bytes-day.ensures
    (omega (arith, h.0, c.from-key_len.ensures)) h.1
