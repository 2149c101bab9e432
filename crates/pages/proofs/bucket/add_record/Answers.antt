use Rattle.std.proofs.Common.{ℕ, List, [], ◌∷◌, ◌++◌, length, get_or, ⊎_elim, arith, length-append}
use Rattle.std.proofs.lemmas.Result.{err_from_is_err_and}
use Rattle.layout.specs.Envelope.{Enveloped}
use Rattle.pages.specs.Records.{viewed}
use Rattle.pages.proofs.Codec.{record_length}
use Rattle.pages.proofs.Envelopes.{last_added, head_made}
use Rattle.pages.proofs.bucket.add_record.Goals as goal

pub returns-then-key_len-gt-PART : goal.returns-then-key_len-gt-PART
returns-then-key_len-gt-PART c = λ body v.
    let l = record_length (viewed c.args.stored) in
    (⊎_elim (λ h. omega (arith, h, l)) (λ h. omega (arith, h.1, l)) c.then-key_len-gt-PART.either, v.is)

pub returns-in_err-need_room : goal.returns-in_err-need_room
returns-in_err-need_room c =
    let p = err_from_is_err_and c.from_residual.result c.from_residual.ensures.1 in
    rw p.1 (λ body v. (omega (arith, c.in_err-need_room.ensures body v, record_length (viewed c.args.stored)), v.is))

pub returns-in_err-extend-2 : goal.returns-in_err-extend-2
returns-in_err-extend-2 c = λ body v. absurd (omega (arith, c.in_err-extend-2.ensures _ (c.in_ok-extend.ensures body v), c.in_ok-need_room.ensures body v, length-append body))

pub returns : goal.returns
returns c = λ body v.
    let x = viewed c.args.stored in
    let l = c.to_be_bytes.result in
    let t = c.to_be_bytes-2.result in
    let head : List ℕ = get_or l 0 0 ∷ get_or l 1 0 ∷ x.class ∷ get_or t 0 0 ∷ get_or t 1 0 ∷ get_or t 2 0 ∷ get_or t 3 0 ∷ length x.key ∷ [] in
    let room = c.in_ok-need_room.ensures body v in
    let first : Enveloped c.extend.new.page (body ++ head) = c.in_ok-extend.ensures body v in
    let second : Enveloped c.extend-2.new.page ((body ++ head) ++ x.key) = c.in_ok-extend-2.ensures (body ++ head) first in
    last_added c.extend-3.new.page body head x.key x.value x c.extend-3.result
    (head_made x l t (omega (arith, room)) (omega arith) c.to_be_bytes.ensures c.to_be_bytes-2.ensures)
    (omega (arith, room, length-append (body ++ head) x.key, length-append body head))
    (c.extend-3.ensures ((body ++ head) ++ x.key) second)
