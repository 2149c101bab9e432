-- Raw pages of an image: what a write to one leaves.
use Rattle.std.proofs.Common.{◌≡◌, ℕ, zero, suc, ◌+◌, ◌-◌, ◌*◌, ◌/◌, ◌%◌, ◌<◌, ◌≤◌, Bool, true, false, cond, eqb, ◌≢◌, List, [], ◌∷◌, ◌++◌, Option, Bor, length, get_or, take, drop, sym, refl, ap, ◌∙◌, ⊎_elim, mod-eq_of_lt, arith}
use native.Mathlib.Nat.{div-div-eq-div-mul}
use borrow.Rule.Slice.PartMut.{put_mid}
use Rattle.std.proofs.lemmas.List.{take_at, drop_at, append-nil, length-take, length-drop, length-append, drop-drop, append_assoc, get_or-take, get_or-drop, get_or_append_left, get_or-append_right, ext_get_or, drop_all}
use Rattle.std.proofs.lemmas.Bool.{cases_order, eq-eqb, cond_both}
use Rattle.disk.specs.Raw.{check_of, raw, put_raw, sealed, holds, decode, stored, mix, torn, chosen}
use Rattle.disk.specs.HeldSound.{raw_size}
use Rattle.std.specs.Bool.{then_some}
use Rattle.std.specs.Option.{MatchOption}
use Rattle.std.specs.Simd.{first_chunks}
use Rattle.device.specs.Meaning.{bytes, spoiled}

pub back : (a b : ℕ) → (a + b) - a ≡ b
back a b = omega arith

-- a slice of arrays of n elements has those of its list
pub at_chunk : {X : Type 0} (n c : ℕ) (xs : List X) (i : ℕ) → i < c → get_or (first_chunks n c xs) i [] ≡ take n (drop (i * n) xs)
at_chunk n zero xs i h = absurd (omega arith)
at_chunk n (suc c) xs zero h = ap (λ m. take n (drop m xs)) (let z : 0 ≡ 0 * n = omega arith in z)
at_chunk n (suc c) xs (suc i) h = at_chunk n c (drop n xs) i (omega arith) ∙ (ap (take n) (drop-drop (i * n) n xs) ∙ ap (λ m. take n (drop m xs)) (let z : n + i * n ≡ suc i * n = grind arith in z))

pub get_d_raw : (img : List ℕ) (i k d : ℕ) → k < 256 → get_or (raw img i) k d ≡ get_or img (i * 256 + k) d
unfolding raw
get_d_raw img i k d lt = get_or-take 256 (drop (i * 256) img) k d lt ∙ get_or-drop (i * 256) img k d

pub put_is : (img x : List ℕ) (i k : ℕ) → k ≡ 256 → put_mid (i * 256) k img x ≡ put_raw img i x
unfolding put_raw
put_is img x i k e = rw (e, drop-drop)

module _ (img x : List ℕ) (i : ℕ) (h : i * 256 + 256 ≤ length img) (e : length x ≡ 256) where
  pub length_put : length (put_raw img i x) ≡ length img
  unfolding put_raw
  length_put = simp (length-append, length-take, length-drop) (omega arith)

  pub raw_put : raw (put_raw img i x) i ≡ x
  unfolding raw put_raw
  raw_put =
      let l : length (take (i * 256) img) ≡ i * 256 = simp length-take (omega arith) in
      ap (take 256) (drop_at (take (i * 256) img) (x ++ drop (i * 256 + 256) img) (i * 256) l)
      ∙ take_at x (drop (i * 256 + 256) img) 256 e

module _ (img x : List ℕ) (i j : ℕ) (h : i * 256 + 256 ≤ length img) (e : length x ≡ 256) where
  pub other_at : (k : ℕ) (d : ℕ) → j ≢ i → k < 256 → get_or (put_raw img i x) (j * 256 + k) d ≡ get_or img (j * 256 + k) d
  unfolding put_raw
  other_at k d ne lt =
      let l : length (take (i * 256) img) ≡ i * 256 = simp length-take (omega arith) in
      ⊎_elim (λ q. absurd (ne q))
      (⊎_elim
      (λ (q : j < i).
      let a : j * 256 + k < i * 256 = omega arith in
      get_or_append_left (take (i * 256) img) (x ++ drop (i * 256 + 256) img) d (j * 256 + k) (omega (arith, l))
      ∙ get_or-take (i * 256) img (j * 256 + k) d a)
      (λ (q : i < j).
      get_or-append_right (take (i * 256) img) (x ++ drop (i * 256 + 256) img) (i * 256) (j * 256 + k) d l (omega arith)
      ∙ (get_or-append_right x (drop (i * 256 + 256) img) 256 ((j * 256 + k) - i * 256) d e (omega arith)
      ∙ (get_or-drop (i * 256 + 256) img (((j * 256 + k) - i * 256) - 256) d
      ∙ ap (λ n. get_or img n d) (let z : (i * 256 + 256) + (((j * 256 + k) - i * 256) - 256) ≡ j * 256 + k = omega arith in z)))))
      (cases_order j i)

  pub raw_other : j ≢ i → j * 256 + 256 ≤ length img → raw (put_raw img i x) j ≡ raw img j
  raw_other ne g =
      let g' : j * 256 + 256 ≤ length (put_raw img i x) = omega (arith, length_put img x i h e) in
      ext_get_or 0 _ _ (raw_size (put_raw img i x) j g' ∙ sym (raw_size img j g))
      (λ k lt.
      let lt' : k < 256 = omega (arith, lt, raw_size (put_raw img i x) j g') in
      get_d_raw (put_raw img i x) j k 0 lt' ∙ (other_at k 0 ne lt' ∙ sym (get_d_raw img j k 0 lt')))

-- a raw page r shows its page, if its check holds
pub shown_page : (o : Option (Bor (List ℕ))) (b : Bool) (p : Bor (List ℕ)) (x r : List ℕ) → o ≡ then_some b p → b ≡ holds x → p.now ≡ take 252 x → x ≡ r
    → MatchOption o (decode r ≡ spoiled) (λ q. decode r ≡ bytes q.now)
unfolding decode
shown_page o true p x r e f g h = rw (e, ← h, ← f, g)
shown_page o false p x r e f g h = rw (e, ← h, ← f)

-- the check, once written, is read again
check_small : (p : List ℕ) → check_of p < 4294967296
unfolding check_of
check_small p = omega arith

split : (n : ℕ) → n ≡ n / 256 * 256 + n % 256
split n = omega arith

four : (q r m n : ℕ) → r ≡ q * 256 + r % 256 → m ≡ r * 256 + m % 256 → n ≡ m * 256 + n % 256 → n < 4294967296 → q % 256 * 16777216 + r % 256 * 65536 + m % 256 * 256 + n % 256 ≡ n
four q r m n a b c h =
    let l : q < 256 = omega arith in
    let e : q % 256 ≡ q = mod-eq_of_lt l in
    omega (arith, e)

digits : (n : ℕ) → n < 4294967296 → n / 16777216 % 256 * 16777216 + n / 65536 % 256 * 65536 + n / 256 % 256 * 256 + n % 256 ≡ n
digits n h =
    let a : n / 65536 ≡ n / 256 / 256 = sym (div-div-eq-div-mul n 256 256) in
    let b : n / 16777216 ≡ n / 256 / 256 / 256 = sym (ap (λ m. m / 256) (div-div-eq-div-mul n 256 256) ∙ div-div-eq-div-mul n 65536 256) in
    ap (λ t. t % 256 * 16777216 + n / 65536 % 256 * 65536 + n / 256 % 256 * 256 + n % 256) b
    ∙ (ap (λ t. n / 256 / 256 / 256 % 256 * 16777216 + t % 256 * 65536 + n / 256 % 256 * 256 + n % 256) a
    ∙ four (n / 256 / 256 / 256) (n / 256 / 256) (n / 256) n (split (n / 256 / 256)) (split (n / 256)) (split n) h)

module _ (p : List ℕ) (e : length p ≡ 252) where
  pub length_sealed : length (sealed p) ≡ 256
  unfolding sealed
  length_sealed = length-append p _ ∙ omega (arith, e)

  pub take_sealed : take 252 (sealed p) ≡ p
  unfolding sealed
  take_sealed = take_at p _ 252 e

  at_sealed : (k j : ℕ) → k ≡ 252 + j → get_or (sealed p) k 0 ≡ get_or (check_of p / 16777216 % 256 ∷ check_of p / 65536 % 256 ∷ check_of p / 256 % 256 ∷ check_of p % 256 ∷ []) j 0
  unfolding sealed
  at_sealed k j q = get_or-append_right p _ 252 k 0 e (omega arith) ∙ ap (λ n. get_or (check_of p / 16777216 % 256 ∷ check_of p / 65536 % 256 ∷ check_of p / 256 % 256 ∷ check_of p % 256 ∷ []) n 0) (let z : k - 252 ≡ j = omega arith in z)

  pub holds_sealed : holds (sealed p) ≡ true
  unfolding holds
  holds_sealed =
      let a = at_sealed 252 0 refl in
      let b = at_sealed 253 1 refl in
      let c = at_sealed 254 2 refl in
      let d = at_sealed 255 3 refl in
      let z = digits (check_of p) (check_small p) in
      let t : stored (sealed p) ≡ check_of (take 252 (sealed p)) = cc (a, b, c, d, z, ap check_of take_sealed) in
      eq-eqb _ _ t

  pub decode_sealed : decode (sealed p) ≡ bytes p
  unfolding decode
  decode_sealed = rw (holds_sealed, take_sealed)

pub seal_is : (a b x out : List ℕ) → length a ≡ 252 → length out ≡ 256 → length b ≡ 4 → put_mid 252 4 (a ++ drop 252 out) b ≡ a ++ b
seal_is a b x out e h g =
    ap (λ t. t ++ (b ++ drop 4 (drop 252 (a ++ drop 252 out)))) (take_at a (drop 252 out) 252 e)
    ∙ ap (λ t. a ++ (b ++ drop 4 t)) (drop_at a (drop 252 out) 252 e)
    ∙ ap (λ t. a ++ (b ++ t)) (drop_all 4 (drop 252 out) (simp length-drop (omega arith)))
    ∙ ap (λ t. a ++ t) (append-nil b)

-- what lies behind a page is as it was
pub drop_put : (img x : List ℕ) (i n : ℕ) → i * 256 + 256 ≤ length img → length x ≡ 256 → i * 256 + 256 ≤ n → drop n (put_raw img i x) ≡ drop n img
unfolding put_raw
drop_put img x i n h e le =
    let l : length (take (i * 256) img ++ x) ≡ i * 256 + 256 = simp (length-append, length-take) (omega arith) in
    ap (drop n) (sym (append_assoc (take (i * 256) img) x (drop (i * 256 + 256) img)))
    ∙ (ap (λ m. drop m ((take (i * 256) img ++ x) ++ drop (i * 256 + 256) img)) (let z : n ≡ (i * 256 + 256) + (n - (i * 256 + 256)) = omega arith in z)
    ∙ (sym (drop-drop (n - (i * 256 + 256)) (i * 256 + 256) ((take (i * 256) img ++ x) ++ drop (i * 256 + 256) img))
    ∙ (ap (drop (n - (i * 256 + 256))) (drop_at (take (i * 256) img ++ x) (drop (i * 256 + 256) img) (i * 256 + 256) l)
    ∙ (drop-drop (n - (i * 256 + 256)) (i * 256 + 256) img
    ∙ ap (λ m. drop m img) (let z : (i * 256 + 256) + (n - (i * 256 + 256)) ≡ n = omega arith in z)))))

pub mix_is : (T : ℕ) (old new front out : List ℕ) → front ≡ take (T - 0) new → out ≡ old → front ++ drop (T - 0) out ≡ mix T old new
unfolding mix
mix_is T old new front out e f =
    let z : T - 0 ≡ T = omega arith in
    ap (λ t. t ++ drop (T - 0) out) e ∙ (ap (λ t. take (T - 0) new ++ drop (T - 0) t) f ∙ ap (λ n. take n new ++ drop n old) z)

pub length_mix : (T : ℕ) (old new : List ℕ) → length old ≡ 256 → length new ≡ 256 → length (mix T old new) ≡ 256
unfolding mix
length_mix T old new a b = simp (length-append, length-take, length-drop) (omega arith)

pub length_torn : (T : ℕ) (old new : List ℕ) → length old ≡ 256 → length new ≡ 256 → length (torn T old new) ≡ 256
unfolding torn
length_torn T old new a b = cond_both _ old (mix T old new) (λ x. length x ≡ 256) (λ _. a) (λ _. length_mix T old new a b)

module _ (l T : ℕ) (old new : List ℕ) where
  pub length_chosen : length old ≡ 256 → length new ≡ 256 → length (chosen l T old new) ≡ 256
  unfolding chosen
  length_chosen a b =
      cond_both (eqb l 111) old (cond (eqb l 110) new (torn T old new)) (λ x. length x ≡ 256) (λ _. a)
      (λ _. cond_both (eqb l 110) new (torn T old new) (λ x. length x ≡ 256) (λ _. b) (λ _. length_torn T old new a b))
