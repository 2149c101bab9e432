use Rattle.std.proofs.Common.{◌≡◌, length, map, ap, ◌∙◌, arith}
use Rattle.std.proofs.lemmas.List.{take_all}
use Rattle.std.proofs.lemmas.Grind.{common_steps}
use Rattle.journal.specs.Header.{two_bytes}
use Rattle.journal.proofs.Parsing.{word, bytes_back, numbers_length}
use Rattle.journal.proofs.header.targets_in.Goals as goal

pub returns-in_default : goal.returns-in_default
returns-in_default c = λ ts k.
    let e = numbers_length c.args.body.now ts k in
    let b = c.as_chunks.ensures.back_len in
    omega arith

pub returns-in_err-ok : goal.returns-in_err-ok
returns-in_err-ok c = rw c.from_residual.ensures (λ ts k.
    let e = numbers_length c.args.body.now ts k in
    let full : length c.loop-pair.found.items ≡ 64 = grind (arith, common_steps) in
    let so_many : length c.loop-pair.found.items ≡ c.loop-pair.pair-index = grind (arith, common_steps) in
    let few = k.few in
    let m = c.as_chunks.ensures.front_len in
    omega arith)

pub returns : goal.returns
returns c =
    let body = c.args.body.now in
    let chunks = c.as_chunks.result.0.now in
    let n = c.loop-pair.pair-index in
    let l = c.loop-pair-test.false in
    let m = c.as_chunks.ensures.front_len in
    let b = c.as_chunks.ensures.back_len in
    let z = c.in_default-empty.len_below in
    record {
      few = grind (arith, common_steps);
      made = ap two_bytes (c.loop-pair.invariant.0 ∙ ap (map word) (take_all n chunks (omega arith) ∙ c.as_chunks.ensures.front)) ∙ bytes_back _ body (omega arith) (λ i. omega (arith, c.type_inv.body i));
    }
