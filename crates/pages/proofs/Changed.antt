-- A bucket's page after a change.
use Rattle.std.proofs.Common.{◌≡◌, ℕ, ◌+◌, ◌-◌, ◌<◌, ◌≤◌, List, [], ◌∷◌, ◌++◌, length, take, drop, Ok, Err, Result, sym, refl, ap, ◌∙◌, arith, length-append, length-drop, MatchOption, MatchResult}
use Rattle.std.specs.List.{slice_range}
use Rattle.std.specs.Result.{result_ok}
use Rattle.std.proofs.lemmas.List.{take_all, take_at, drop_at, drop-drop, append_assoc, append-nil}
use Rattle.tree.specs.Maps.{Rec, size}
use Rattle.layout.specs.Envelope.{envelope, Enveloped}
use Rattle.layout.specs.declared.NoRoom.{NoRoom}
use Rattle.pages.specs.Records.{record_bytes, records, BucketIs}
use Rattle.pages.proofs.Codec.{record_length, records_append}

pub append_made : (p : List ℕ) (d : ℕ) (bs : List ℕ) (rs : List Rec) (x : Rec) → bs ≡ records rs → Enveloped p ((d ∷ bs) ++ record_bytes x) → BucketIs p d (rs ++ x ∷ [])
append_made p d bs rs x e v =
    let a : bs ++ record_bytes x ≡ records (rs ++ x ∷ []) =
    ap (λ (l : List ℕ). l ++ record_bytes x) e ∙ ap (λ (l : List ℕ). records rs ++ l) (sym (append-nil (record_bytes x))) ∙ sym (records_append rs (x ∷ [])) in
    record { fits = omega (arith, v.fits, ap length a); is = v.is ∙ ap (λ (l : List ℕ). envelope (d ∷ l)) a }

pub three_parts : (bs : List ℕ) (before : List Rec) (x : Rec) (after : List Rec) → bs ≡ records (before ++ x ∷ after)
    → (bs ≡ records before ++ (record_bytes x ++ records after)) × (length bs ≡ length (records before) + (size x + length (records after)))
three_parts bs before x after e =
    let a : bs ≡ records before ++ (record_bytes x ++ records after) = e ∙ records_append before (x ∷ after) in
    (a, omega (arith, ap length a, length-append (records before) (record_bytes x ++ records after), length-append (record_bytes x) (records after), record_length x))

told : (o : Result (List ℕ) NoRoom) (d : ℕ) (front back : List ℕ) (before after : List Rec) → front ≡ records before → back ≡ records after → length front + length back ≤ 248
    → MatchResult o (λ p. Enveloped p (d ∷ (front ++ back))) (λ _. 248 < length front + length back) → MatchOption (result_ok o) ⊥ (λ p. BucketIs p d (before ++ after))
told (Err _) d front back before after f b short h = omega arith
told (Ok p) d front back before after f b short v =
    let a : front ++ back ≡ records (before ++ after) = (λ i. f i ++ b i) ∙ sym (records_append before after) in
    record { fits = omega (arith, v.fits, ap length a); is = v.is ∙ ap (λ (l : List ℕ). envelope (d ∷ l)) a }

-- a part of a part that goes to the end
pub back_part : (bs mid back : List ℕ) (start len : ℕ) → mid ≡ slice_range bs start (length bs) → back ≡ slice_range mid len (length mid) → back ≡ drop (start + len) bs
back_part bs mid back start len em eb =
    let m : mid ≡ drop start bs = em ∙ take_all (length bs - start) (drop start bs) (omega (arith, length-drop start bs)) in
    eb ∙ take_all (length mid - len) (drop len mid) (omega (arith, length-drop len mid)) ∙ ap (drop len) m ∙ drop-drop len start bs

pub remove_made : (o : Result (List ℕ) NoRoom) (d : ℕ) (bs front back : List ℕ) (start len : ℕ) (before : List Rec) (x : Rec) (after : List Rec)
    → front ≡ take (start - 0) bs → back ≡ drop (start + len) bs
    → MatchResult o (λ p. Enveloped p (d ∷ (front ++ back))) (λ _. 248 < length front + length back)
    → bs ≡ records (before ++ x ∷ after) → length bs ≤ 248 → start ≡ length (records before) → len ≡ size x
    → MatchOption (result_ok o) ⊥ (λ p. BucketIs p d (before ++ after))
remove_made o d bs front back start len before x after ef eb c e short es el =
    let t = three_parts bs before x after e in
    let s0 : start - 0 ≡ length (records before) = omega arith in
    let f : front ≡ records before = ef ∙ ap (λ k. take k bs) s0 ∙ ap (take (length (records before))) t.0 ∙ take_at (records before) (record_bytes x ++ records after) (length (records before)) refl in
    let b : back ≡ records after =
    eb ∙ ap (drop (start + len)) (t.0 ∙ sym (append_assoc (records before) (record_bytes x) (records after)))
    ∙ drop_at (records before ++ record_bytes x) (records after) (start + len) (omega (arith, length-append (records before) (record_bytes x), record_length x)) in
    told o d front back before after f b (omega (arith, ap length f, ap length b, t.1)) c
