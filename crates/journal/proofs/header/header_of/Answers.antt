use Rattle.std.proofs.Common.{◌≡◌, ℕ, ◌+◌, ◌/◌, ◌%◌, ◌<◌, ◌≤◌, List, [], ◌∷◌, ◌++◌, length, get_or, take, Ok, Err, Result, sym, refl, ap, ◌∙◌, subst, arith, rules}
use Rattle.std.specs.Result.{IsOk}
use Rattle.std.proofs.lemmas.List.{take_more, length-take-le}
use Rattle.layout.specs.declared.NoRoom.{NoRoom}
use Rattle.layout.specs.Envelope.{Enveloped, Extended}
use Rattle.journal.specs.Header.{two_bytes}
use Rattle.journal.proofs.Parsing.{two_length, two_push}
use Rattle.journal.proofs.header.header_of.Goals as goal

added : (page body more : List ℕ) (r : Result (Unit {0}) NoRoom) → length body ≤ 126 → length more ≡ 2 → Extended page body more r → IsOk r × Enveloped page (body ++ more)
added page body more (Ok _) room two x = (refl, x)
added page body more (Err _) room two x = absurd (omega (arith, x.0))

-- the two bytes of one target more have room, and are then in the body
target_added : (ts : List ℕ) (j : ℕ) (page more : List ℕ) (r : Result (Unit {0}) NoRoom) → j < length ts → length ts ≤ 64 → get_or ts j 0 < 65536
    → more ≡ get_or ts j 0 / 256 % 256 ∷ get_or ts j 0 % 256 ∷ [] → Extended page (two_bytes (take j ts)) more r
    → IsOk r × Enveloped page (two_bytes (take (j + 1) ts))
target_added ts j page more r lt few small e x =
    let p : ℕ = get_or ts j 0 in
    let body : List ℕ = two_bytes (take j ts) in
    let room : length body ≤ 126 = let a = two_length (take j ts) in let c = length-take-le j ts (omega arith) in omega arith in
    let high : p / 256 % 256 ≡ p / 256 = omega arith in
    let all : body ++ more ≡ two_bytes (take (j + 1) ts) =
    ap (λ (l : List ℕ). body ++ l) (e ∙ ap (λ (h : ℕ). h ∷ p % 256 ∷ []) high) ∙ sym (two_push (take j ts) p)
    ∙ ap two_bytes (sym (take_more ts j 0 lt)) in
    let y = added page body more r room (ap length e) x in
    (y.0, subst (λ (l : List ℕ). Enveloped page l) all y.1)

pub unwrap-requires : goal.unwrap-requires
unwrap-requires c =
    let ts = c.pages-target-items.result.now in
    let small : get_or ts c.loop-target.target-index 0 < 65536 = search rules in
    (target_added ts c.loop-target.target-index c.extend.new.page c.to_be_bytes.result c.extend.result c.loop-target-test.true c.pages-target-items.ensures.few small c.to_be_bytes.ensures (c.extend.ensures _ c.loop-target.invariant)).0

pub loop-target-preserved : goal.loop-target-preserved
loop-target-preserved c =
    let ts = c.pages-target-items.result.now in
    let small : get_or ts c.loop-target.target-index 0 < 65536 = search rules in
    (target_added ts c.loop-target.target-index c.extend.new.page c.to_be_bytes.result c.extend.result c.loop-target-test.true c.pages-target-items.ensures.few small c.to_be_bytes.ensures (c.extend.ensures _ c.loop-target.invariant)).1
