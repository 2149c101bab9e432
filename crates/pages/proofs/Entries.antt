-- A part of an array, tested entry by entry.
use Rattle.std.proofs.Common.{◌≡◌, ℕ, zero, suc, ⊎_elim, ◌+◌, ◌-◌, ◌^◌, ◌<◌, ◌≤◌, Bool, true, false, List, length, take, drop, MatchBool, sym, ◌∙◌, subst, arith, length-drop, get_or-take, get_or-drop}
use Rattle.std.proofs.lemmas.Bool.{cases_eq}
use Rattle.std.specs.Array.{IsFromFnResultFrom}
use Rattle.std.specs.Fn.{Called, Mut}
use Rattle.std.specs.List.{AllWithin, HoldsAt, range_with_len}
use Rattle.std.proofs.lemmas.List.FromFn.{get_or-range_with_len, length-range_with_len}
use Rattle.pages.specs.Surveys.{at, EntriesPlaced}

-- the used entries stand as the entries do
pub used_placed : (es : List ℕ) (D : ℕ → ℕ) (w : ℕ) → EntriesPlaced (at (take (2 ^ w) es)) D w → EntriesPlaced (at es) D w
used_placed es D w p i h = let q = p i h in (
  q.0,
  λ j l. (
    (λ e. (q.1 j l).0 (get_or-take (2 ^ w) es j 0 l ∙ e ∙ sym (get_or-take (2 ^ w) es i 0 h))),
    λ e. sym (get_or-take (2 ^ w) es j 0 l) ∙ (q.1 j l).1 e ∙ get_or-take (2 ^ w) es i 0 h,
  ),
)

pub placed_used : (es : List ℕ) (D : ℕ → ℕ) (w : ℕ) → EntriesPlaced (at es) D w → EntriesPlaced (at (take (2 ^ w) es)) D w
placed_used es D w p i h = let q = p i h in (
  q.0,
  λ j l. (
    (λ e. (q.1 j l).0 (sym (get_or-take (2 ^ w) es j 0 l) ∙ e ∙ get_or-take (2 ^ w) es i 0 h)),
    λ e. get_or-take (2 ^ w) es j 0 l ∙ (q.1 j l).1 e ∙ sym (get_or-take (2 ^ w) es i 0 h),
  ),
)

-- those from n on, of m
pub last_all : (P : ℕ → Type 0) (r : Bool) (xs ys : List ℕ) (n m : ℕ) → length xs ≡ m → ys ≡ drop n xs → n ≤ m
    → MatchBool r (AllWithin P ys 0 (length ys)) ((k : ℕ) × (k < length ys) × HoldsAt (λ x. P x → ⊥) ys k)
    → MatchBool r ((i : ℕ) → n ≤ i → i < m → P (at xs i)) (((i : ℕ) → n ≤ i → i < m → P (at xs i)) → ⊥)
last_all P r xs ys n m z e h t =
    go r (subst (λ l. MatchBool r (AllWithin P l 0 (length l)) ((k : ℕ) × (k < length l) × HoldsAt (λ x. P x → ⊥) l k)) e t)
  where
    go : (r : Bool) → MatchBool r (AllWithin P (drop n xs) 0 (length (drop n xs))) ((k : ℕ) × (k < length (drop n xs)) × HoldsAt (λ x. P x → ⊥) (drop n xs) k)
        → MatchBool r ((i : ℕ) → n ≤ i → i < m → P (at xs i)) (((i : ℕ) → n ≤ i → i < m → P (at xs i)) → ⊥)
    go true a = λ i l lt.
        let q : n + (i - n) ≡ i = omega arith in
        subst (λ k. P (at xs k)) q (subst P (get_or-drop n xs (i - n) 0) (a (i - n) 0 (omega arith) (omega (arith, length-drop n xs))))
    go false a = λ q. a.2 0 (subst P (sym (get_or-drop n xs a.0 0)) (q (n + a.0) (omega arith) (omega (arith, a.1, length-drop n xs))))

-- every number below n
pub range_all : (P : ℕ → Type 0) (r : Bool) (m n : ℕ) → m ≡ n → MatchBool r (AllWithin P (range_with_len 0 m) 0 (length (range_with_len 0 m))) ((k : ℕ) × (k < length (range_with_len 0 m)) × HoldsAt (λ x. P x → ⊥) (range_with_len 0 m) k)
    → MatchBool r ((i : ℕ) → i < n → P i) (((i : ℕ) → i < n → P i) → ⊥)
range_all P true m n e a = λ i l.
    let h : i < m = omega arith in
    let z : 0 + i ≡ i = omega arith in
    subst P (get_or-range_with_len 0 m i 0 h ∙ z) (a i 0 (omega arith) (omega (arith, length-range_with_len 0 m)))
range_all P false m n e a = λ q.
    let h : a.0 < m = omega (arith, a.1, length-range_with_len 0 m) in
    let z : 0 + a.0 ≡ a.0 = omega arith in
    a.2 0 (subst P (sym (get_or-range_with_len 0 m a.0 0 h ∙ z)) (q a.0 (omega arith)))

-- made by a function of the index
pub made_by : {F : Type 0} (g : Mut F (ℕ × Unit {0}) ℕ) (f : F) (h : ℕ → ℕ) → ((x y : ℕ) (q : F) → Called g f (x, tt) y q → (q ≡ f) × (y ≡ h x)) → (ys : List ℕ) (i n : ℕ) → IsFromFnResultFrom g f ys i n
    → (k : ℕ) → i ≤ k → k < i + n → at ys k ≡ h k
made_by g f h c ys i zero r k a b = absurd (omega arith)
made_by g f h c ys i (suc n) r k a b =
    let q = c i r.1 r.0 r.3 in
    ⊎_elim
    (λ (e : k ≡ i). subst (λ v. at ys v ≡ h v) (sym e) (r.2.1 0 ∙ q.1))
    (λ (e : k ≡ i → ⊥). made_by g f h c ys (i + 1) n (subst (λ p. IsFromFnResultFrom g p ys (i + 1) n) q.0 r.4) k (omega arith) (omega arith))
    (cases_eq k i)
