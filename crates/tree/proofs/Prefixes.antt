-- Prefixes of prefixes.
use Rattle.std.proofs.Common.{◌≡◌, ℕ, suc, ◌+◌, ◌-◌, ◌*◌, ◌/◌, ◌^◌, ◌<◌, ◌≤◌, sym, ap, ◌∙◌, subst, ⊎_elim, div-one, arith, pow_pos, shr-shr, shr_lt}
use native.Mathlib.Nat.{div-eq_of_lt}
use Rattle.std.proofs.lemmas.Bool.{cases_lt}
use Rattle.std.proofs.lemmas.Nat.{shl-shr, shl_below, le-div}
use Rattle.tree.specs.Prefix.{pre}

-- a prefix is the next longer one without its last bit
pub pre_step : (w x n : ℕ) → n < w → pre w x n ≡ pre w x (suc n) / 2
pre_step w x n h =
    let e : w - n ≡ (w - suc n) + 1 = omega arith in
    ap (λ k. x / 2 ^ k) e ∙ sym (shr-shr x (w - suc n) 1)

pub pre_pre : (w x m n : ℕ) → n ≤ m → m ≤ w → pre m (pre w x m) n ≡ pre w x n
pre_pre w x m n h k =
    let e : (w - m) + (m - n) ≡ w - n = omega arith in
    shr-shr x (w - m) (m - n) ∙ ap (λ j. x / 2 ^ j) e

pub pre_root : (w x : ℕ) → x < 2 ^ w → pre w x 0 ≡ 0
pre_root w x h = let e : w - 0 ≡ w = omega arith in ap (λ j. x / 2 ^ j) e ∙ div-eq_of_lt h

pub root_below : (w x : ℕ) → pre w x 0 ≡ 0 → x < 2 ^ w
root_below w x e =
    let z : w - 0 ≡ w = omega arith in
    let y : x / 2 ^ w ≡ 0 = ap (λ j. x / 2 ^ j) (sym z) ∙ e in
    ⊎_elim (λ l. l) (λ (ge : 2 ^ w ≤ x). absurd (omega (arith, le-div 1 x (2 ^ w) (pow_pos w) (omega arith), y))) (cases_lt x (2 ^ w))

pub pre_self : (w x : ℕ) → pre w x w ≡ x
pre_self w x = let e : w - w ≡ 0 = omega arith in ap (λ j. x / 2 ^ j) e ∙ div-one x

pub pre_below : (w x n : ℕ) → n ≤ w → x < 2 ^ w → pre w x n < 2 ^ n
pre_below w x n k h =
    let e : w ≡ n + (w - n) = omega arith in
    let h' : x < 2 ^ (n + (w - n)) = rw e at h in
    shr_lt n (w - n) h'

-- two numbers that agree in the first n bits agree in fewer
pub pre_agree : (w x y m n : ℕ) → n ≤ m → m ≤ w → pre w x m ≡ pre w y m → pre w x n ≡ pre w y n
pre_agree w x y m n h k e = sym (pre_pre w x m n h k) ∙ ap (λ q. pre m q n) e ∙ pre_pre w y m n h k

pub pre_across : (w x v y m n : ℕ) → n ≤ m → m ≤ w → m ≤ v → pre w x m ≡ pre v y m → pre w x n ≡ pre v y n
pre_across w x v y m n h k l e = sym (pre_pre w x m n h k) ∙ ap (λ q. pre m q n) e ∙ pre_pre v y m n h l

-- the first k bits of one bit more
pub pre_up : (n q k : ℕ) → k ≤ n → pre (suc n) q k ≡ pre n (q / 2) k
pre_up n q k h =
    let e : suc n - k ≡ 1 + (n - k) = omega arith in
    ap (λ j. q / 2 ^ j) e ∙ sym (shr-shr q 1 (n - k))

-- the number of w bits that begins with p of length n, and has zeros behind
pub pre_filled : (w p n : ℕ) → pre w (p * 2 ^ (w - n)) n ≡ p
pre_filled w p n = shl-shr p (w - n)

pub first_below : (v w i : ℕ) → w ≤ v → i < 2 ^ w → i * 2 ^ (v - w) < 2 ^ v
first_below v w i k h = let e : w + (v - w) ≡ v = omega arith in subst (λ u. i * 2 ^ (v - w) < 2 ^ u) e (shl_below i w (v - w) h)
