-- Numbers and records in bytes: what a reader takes apart is what was put together, and in one way alone.
use Rattle.std.proofs.Common.{◌≡◌, ℕ, ◌+◌, ◌-◌, ◌*◌, ◌/◌, ◌%◌, ◌<◌, ◌≤◌, List, [], ◌∷◌, ◌++◌, length, get_or, take, drop, sum_by, sym, refl, ap, ◌∙◌, arith, length-append, length-drop, take-append-drop, length-take-le, drop-drop}
use lib.Arith.{digits_div, digits_mod}
use Rattle.std.proofs.lemmas.List.{take_all, append_assoc}
use Rattle.std.proofs.lemmas.List.Sums.{sum_by-cons}
use Rattle.tree.specs.Maps.{Rec, size}
use Rattle.layout.specs.Envelope.{be2}
use Rattle.pages.specs.Bytes.{be4}
use Rattle.layout.proofs.Envelopes.{split_eq}
use Rattle.pages.specs.Records.{record_bytes, records}

-- two bytes are those of their number
pub two_bytes : (a b : ℕ) → b < 256 → be2 (a * 256 + b) ≡ a ∷ b ∷ []
two_bytes a b lt = λ i. digits_div a {m = 256} lt i ∷ digits_mod a {m = 256} lt i ∷ []

pub four_bytes : (a b c d : ℕ) → b < 256 → c < 256 → d < 256 → be4 (a * 16777216 + b * 65536 + c * 256 + d) ≡ a ∷ b ∷ c ∷ d ∷ []
four_bytes a b c d hb hc hd =
    let n : ℕ = a * 16777216 + b * 65536 + c * 256 + d in
    let e3 : n ≡ (a * 65536 + b * 256 + c) * 256 + d = omega arith in
    let e2 : n ≡ (a * 256 + b) * 65536 + (c * 256 + d) = omega arith in
    let e1 : n ≡ a * 16777216 + (b * 65536 + c * 256 + d) = omega arith in
    let q1 : n / 16777216 ≡ a = ap (λ x. x / 16777216) e1 ∙ digits_div a {m = 16777216} (omega arith) in
    let q2 : n / 65536 % 256 ≡ b = ap (λ x. x / 65536 % 256) e2 ∙ ap (λ x. x % 256) (digits_div (a * 256 + b) {m = 65536} (omega arith)) ∙ digits_mod a {m = 256} hb in
    let q3 : n / 256 % 256 ≡ c = ap (λ x. x / 256 % 256) e3 ∙ ap (λ x. x % 256) (digits_div (a * 65536 + b * 256 + c) {m = 256} hd) ∙ ap (λ x. x % 256) (third a b c) ∙ digits_mod (a * 256 + b) {m = 256} hc in
    let q4 : n % 256 ≡ d = ap (λ x. x % 256) e3 ∙ digits_mod (a * 65536 + b * 256 + c) {m = 256} hd in
    (λ i. q1 i ∷ q2 i ∷ q3 i ∷ q4 i ∷ [])
  where
    third : (a b c : ℕ) → a * 65536 + b * 256 + c ≡ (a * 256 + b) * 256 + c
    third a b c = omega arith

-- ---- a record read

-- the parts of what follows the eight bytes, put together again
parts : (q : List ℕ) (k v : ℕ) → k + v ≤ length q → (take k q ++ take v (drop k q)) ++ drop (k + v) q ≡ q
parts q k v h =
    append_assoc (take k q) (take v (drop k q)) (drop (k + v) q)
    ∙ ap (λ (l : List ℕ). take k q ++ l) (ap (λ (l : List ℕ). take v (drop k q) ++ l) (sym (drop-drop v k q)) ∙ take-append-drop v (drop k q))
    ∙ take-append-drop k q

abbrev rec : ℕ → ℕ → List ℕ → List ℕ → Rec
rec c d k v = record { class = c; last = d; key = k; value = v }

splits : (a0 a1 a2 a3 a4 a5 a6 a7 : ℕ) (q : List ℕ) (w : ℕ) → a1 < 256 → a4 < 256 → a5 < 256 → a6 < 256 → w ≡ a0 * 256 + a1 → 8 + a7 ≤ w → w ≤ 8 + length q
    → a0 ∷ a1 ∷ a2 ∷ a3 ∷ a4 ∷ a5 ∷ a6 ∷ a7 ∷ q ≡ record_bytes (rec a2 (a3 * 16777216 + a4 * 65536 + a5 * 256 + a6) (take a7 q) (take (w - 8 - a7) (drop a7 q))) ++ drop (w - 8) q
unfolding record_bytes
splits a0 a1 a2 a3 a4 a5 a6 a7 q w h1 h4 h5 h6 e low high =
    let lk : length (take a7 q) ≡ a7 = length-take-le a7 q (omega arith) in
    let lv : length (take (w - 8 - a7) (drop a7 q)) ≡ w - 8 - a7 = length-take-le (w - 8 - a7) (drop a7 q) (omega (arith, length-drop a7 q)) in
    let whole : 8 + length (take a7 q) + length (take (w - 8 - a7) (drop a7 q)) ≡ a0 * 256 + a1 = omega (arith, lk, lv) in
    let tail : a7 + (w - 8 - a7) ≡ w - 8 = omega arith in
    let rest : (take a7 q ++ take (w - 8 - a7) (drop a7 q)) ++ drop (w - 8) q ≡ q = ap (λ x. (take a7 q ++ take (w - 8 - a7) (drop a7 q)) ++ drop x q) (sym tail) ∙ parts q a7 (w - 8 - a7) (omega arith) in
    let head : be2 (8 + length (take a7 q) + length (take (w - 8 - a7) (drop a7 q))) ≡ a0 ∷ a1 ∷ [] = ap be2 whole ∙ two_bytes a0 a1 h1 in
    let day : be4 (a3 * 16777216 + a4 * 65536 + a5 * 256 + a6) ≡ a3 ∷ a4 ∷ a5 ∷ a6 ∷ [] = four_bytes a3 a4 a5 a6 h4 h5 h6 in
    let path : record_bytes (rec a2 (a3 * 16777216 + a4 * 65536 + a5 * 256 + a6) (take a7 q) (take (w - 8 - a7) (drop a7 q))) ++ drop (w - 8) q ≡ a0 ∷ a1 ∷ a2 ∷ a3 ∷ a4 ∷ a5 ∷ a6 ∷ a7 ∷ ((take a7 q ++ take (w - 8 - a7) (drop a7 q)) ++ drop (w - 8) q) = λ i. (head i ++ (a2 ∷ day i ++ (lk i ∷ (take a7 q ++ take (w - 8 - a7) (drop a7 q))))) ++ drop (w - 8) q in
    sym (path ∙ ap (λ (l : List ℕ). a0 ∷ a1 ∷ a2 ∷ a3 ∷ a4 ∷ a5 ∷ a6 ∷ a7 ∷ l) rest)

-- bytes by their first eight
eight : (p : List ℕ) → 8 ≤ length p → p ≡ get_or p 0 0 ∷ get_or p 1 0 ∷ get_or p 2 0 ∷ get_or p 3 0 ∷ get_or p 4 0 ∷ get_or p 5 0 ∷ get_or p 6 0 ∷ get_or p 7 0 ∷ drop 8 p
eight [] h = absurd (omega (arith, h))
eight (a ∷ []) h = absurd (omega (arith, h))
eight (a ∷ b ∷ []) h = absurd (omega (arith, h))
eight (a ∷ b ∷ c ∷ []) h = absurd (omega (arith, h))
eight (a ∷ b ∷ c ∷ d ∷ []) h = absurd (omega (arith, h))
eight (a ∷ b ∷ c ∷ d ∷ e ∷ []) h = absurd (omega (arith, h))
eight (a ∷ b ∷ c ∷ d ∷ e ∷ f ∷ []) h = absurd (omega (arith, h))
eight (a ∷ b ∷ c ∷ d ∷ e ∷ f ∷ g ∷ []) h = absurd (omega (arith, h))
eight (a ∷ b ∷ c ∷ d ∷ e ∷ f ∷ g ∷ x ∷ q) h = refl

-- the parts that the reader takes
pub reads : (p : List ℕ) (w k day : ℕ) → ((i : ℕ) → get_or p i 0 < 256) → 8 ≤ length p → w ≡ get_or p 0 0 * 256 + get_or p 1 0 → k ≡ get_or p 7 0 → day ≡ get_or p 3 0 * 16777216 + get_or p 4 0 * 65536 + get_or p 5 0 * 256 + get_or p 6 0 → 8 + k ≤ w → w ≤ length p
    → p ≡ record_bytes (rec (get_or p 2 0) day (take (k - 0) (take (length p - 8) (drop 8 p))) (take (w - 8 - k) (drop k (take (length p - 8) (drop 8 p))))) ++ take (length p - w) (drop w p)
reads p w k day small long we ke de low high =
    let whole : take (length p - 8) (drop 8 p) ≡ drop 8 p = take_all (length p - 8) (drop 8 p) (omega (arith, length-drop 8 p)) in
    let end : take (length p - w) (drop w p) ≡ drop (w - 8) (drop 8 p) = take_all (length p - w) (drop w p) (omega (arith, length-drop w p)) ∙ ap (λ x. drop x p) (let z : w ≡ 8 + (w - 8) = omega arith in z) ∙ sym (drop-drop (w - 8) 8 p) in
    let k0 : k - 0 ≡ get_or p 7 0 = omega arith in
    let main = splits (get_or p 0 0) (get_or p 1 0) (get_or p 2 0) (get_or p 3 0) (get_or p 4 0) (get_or p 5 0) (get_or p 6 0) (get_or p 7 0) (drop 8 p) w (small 1) (small 4) (small 5) (small 6) we (omega arith) (omega (arith, length-drop 8 p)) in
    eight p long ∙ main
    ∙ (λ i. record_bytes (rec (get_or p 2 0) (sym de i) (take (sym k0 i) (sym whole i)) (take (w - 8 - sym ke i) (drop (sym ke i) (sym whole i)))) ++ sym end i)

-- ---- what begins with a record

pub record_length : (x : Rec) → length (record_bytes x) ≡ size x
unfolding record_bytes
record_length x = omega (arith, length-append x.key x.value)

pub record_starts : (p : List ℕ) (x : Rec) (rest : List ℕ) → p ≡ record_bytes x ++ rest
    → (8 ≤ length p) × (get_or p 0 0 * 256 + get_or p 1 0 ≡ size x) × (get_or p 7 0 ≡ length x.key) × (size x + length rest ≡ length p)
unfolding record_bytes
record_starts p x rest e =
    let l : length p ≡ 8 + length ((x.key ++ x.value) ++ rest) = ap length e ∙ omega arith in
    let l' : length p ≡ size x + length rest = omega (arith, l, length-append (x.key ++ x.value) rest, length-append x.key x.value) in
    let h0 : get_or p 0 0 ≡ size x / 256 = ap (λ (q : List ℕ). get_or q 0 0) e in
    let h1 : get_or p 1 0 ≡ size x % 256 = ap (λ (q : List ℕ). get_or q 1 0) e in
    (omega (arith, l), omega (arith, h0, h1), ap (λ (q : List ℕ). get_or q 7 0) e, omega (arith, l'))

-- ---- one way alone

pub record_inj : (x y : Rec) (a b : List ℕ) → record_bytes x ++ a ≡ record_bytes y ++ b → (x ≡ y) × (a ≡ b)
unfolding record_bytes
record_inj x y a b e =
    let n0 : size x / 256 ≡ size y / 256 = ap (λ (q : List ℕ). get_or q 0 0) e in
    let n1 : size x % 256 ≡ size y % 256 = ap (λ (q : List ℕ). get_or q 1 0) e in
    let c : x.class ≡ y.class = ap (λ (q : List ℕ). get_or q 2 0) e in
    let d3 : x.last / 16777216 ≡ y.last / 16777216 = ap (λ (q : List ℕ). get_or q 3 0) e in
    let d2 : x.last / 65536 % 256 ≡ y.last / 65536 % 256 = ap (λ (q : List ℕ). get_or q 4 0) e in
    let d1 : x.last / 256 % 256 ≡ y.last / 256 % 256 = ap (λ (q : List ℕ). get_or q 5 0) e in
    let d0 : x.last % 256 ≡ y.last % 256 = ap (λ (q : List ℕ). get_or q 6 0) e in
    let d : x.last ≡ y.last = omega arith in
    let k : length x.key ≡ length y.key = ap (λ (q : List ℕ). get_or q 7 0) e in
    let v : length x.value ≡ length y.value = omega arith in
    let t : (x.key ++ x.value) ++ a ≡ (y.key ++ y.value) ++ b = ap (drop 8) e in
    let s = split_eq (x.key ++ x.value) a (y.key ++ y.value) b (omega (arith, length-append x.key x.value, length-append y.key y.value)) t in
    let r = split_eq x.key x.value y.key y.value k s.0 in
    ((λ i. record { class = c i; last = d i; key = r.0 i; value = r.1 i }), s.1)

pub records_inj : (rs ss : List Rec) → records rs ≡ records ss → rs ≡ ss
records_inj [] [] e = refl
records_inj [] (s ∷ ss) e = let l : 0 ≡ length (record_bytes s ++ records ss) = ap length e in absurd (omega (arith, l, length-append (record_bytes s) (records ss), record_length s))
records_inj (r ∷ rs) [] e = let l : length (record_bytes r ++ records rs) ≡ 0 = ap length e in absurd (omega (arith, l, length-append (record_bytes r) (records rs), record_length r))
records_inj (r ∷ rs) (s ∷ ss) e = let p = record_inj r s (records rs) (records ss) e in λ i. p.0 i ∷ records_inj rs ss p.1 i

pub records_append : (rs ss : List Rec) → records (rs ++ ss) ≡ records rs ++ records ss
records_append [] ss = refl
records_append (r ∷ rs) ss = ap (λ (l : List ℕ). record_bytes r ++ l) (records_append rs ss) ∙ sym (append_assoc (record_bytes r) (records rs) (records ss))

pub records_length : (rs : List Rec) → length (records rs) ≡ sum_by size rs
records_length [] = refl
records_length (r ∷ rs) = omega (arith, length-append (record_bytes r) (records rs), record_length r, records_length rs, sum_by-cons size r rs)
