-- Rows of pages: which pages a row has, and how it is read round.
use Rattle.std.proofs.Common.{◌≡◌, ℕ, ◌+◌, ◌-◌, ◌%◌, ◌<◌, ◌≤◌, Bool, true, false, cond, ◌||◌, eqb, List, [], ◌∷◌, ◌++◌, length, take, drop, set, sym, refl, ap, ◌∙◌, ⊎_elim, append_assoc, append-nil, arith, length-append, length-drop, length-set, length-take}
use Rattle.std.proofs.lemmas.List.{drop-set-lt, take_more_set, drop-append-le, drop-drop, drop_all, take_all, take-append-drop}
use Rattle.std.proofs.lemmas.Bool.{cases_lt}
use Rattle.device.specs.Meaning.{has}
use Rattle.cache.specs.Order.{round, newest}

has_append : (p : ℕ) (xs ys : List ℕ) → has p (xs ++ ys) ≡ (has p xs || has p ys)
has_append p [] ys = refl
has_append p (x ∷ xs) ys = elim (eqb p x) as (λ b. cond b true (has p (xs ++ ys)) ≡ (cond b true (has p xs) || has p ys)) [ true ↦ refl | false ↦ has_append p xs ys ]

or_swap : (a b : Bool) → (a || b) ≡ (b || a)
or_swap true true = refl
or_swap true false = refl
or_swap false true = refl
or_swap false false = refl

-- a row has the same pages from wherever it is read
pub has_round : (p n : ℕ) (ps : List ℕ) → has p (round n ps) ≡ has p ps
has_round p n ps =
    has_append p (drop n ps) (take n ps) ∙ or_swap (has p (drop n ps)) (has p (take n ps)) ∙ sym (has_append p (take n ps) (drop n ps))
    ∙ ap (has p) (take-append-drop n ps)

-- in a circle a page is put where the first one stood, and the circle then begins after it: the first one has left, and the page is the last
turn_on : (xs : List ℕ) (n p : ℕ) → n < length xs → round (n + 1) (set xs n p) ≡ drop 1 (round n xs) ++ p ∷ []
turn_on xs n p h =
    let l : 1 ≤ length (drop n xs) = simp length-drop (omega arith) in
    ap (λ (a : List ℕ). a ++ take (n + 1) (set xs n p)) (drop-set-lt (n + 1) xs n p (omega arith))
    ∙ ap (λ (a : List ℕ). drop (n + 1) xs ++ a) (take_more_set xs n p h)
    ∙ sym (append_assoc (drop (n + 1) xs) (take n xs) (p ∷ []))
    ∙ ap (λ (a : List ℕ). a ++ p ∷ []) (ap (λ (a : List ℕ). a ++ take n xs) (sym (drop-drop 1 n xs)) ∙ sym (drop-append-le 1 (drop n xs) (take n xs) l))

round_whole : (xs : List ℕ) → round 0 xs ≡ round (length xs) xs
round_whole xs = append-nil xs ∙ sym (ap (λ (a : List ℕ). a ++ take (length xs) xs) (drop_all (length xs) xs (omega arith)) ∙ take_all (length xs) xs (omega arith))

pub turns : (xs : List ℕ) (n p : ℕ) → length xs ≡ 8 → n < 8 → round ((n + 1) % 8) (set xs n p) ≡ drop 1 (round n xs) ++ p ∷ []
turns xs n p l h = ⊎_elim
    (λ s. let e : (n + 1) % 8 ≡ n + 1 = omega arith in ap (λ (k : ℕ). round k (set xs n p)) e ∙ turn_on xs n p (omega arith))
    (λ s.
    let e : (n + 1) % 8 ≡ 0 = omega arith in
    let z : length (set xs n p) ≡ n + 1 = length-set xs n p ∙ omega arith in
    ap (λ (k : ℕ). round k (set xs n p)) e ∙ round_whole (set xs n p) ∙ ap (λ (k : ℕ). round k (set xs n p)) z ∙ turn_on xs n p (omega arith))
    (cases_lt (n + 1) 8)

length_round : (n : ℕ) (xs : List ℕ) → length (round n xs) ≡ length xs
length_round n xs = simp (length-append, length-drop, length-take) (omega arith)

-- the newest of up to eight are all of them, and of nine all but the first
pub newest_few : (ps : List ℕ) → length ps ≤ 8 → newest ps ≡ ps
newest_few ps h = let z : length ps - 8 ≡ 0 = omega arith in ap (λ (k : ℕ). drop k ps) z

pub newest_nine : (n : ℕ) (ps : List ℕ) (p : ℕ) → length ps ≡ 8 → newest (round n ps ++ p ∷ []) ≡ drop 1 (round n ps) ++ p ∷ []
newest_nine n ps p l =
    let r = length_round n ps in
    let z : length (round n ps ++ p ∷ []) - 8 ≡ 1 = omega (arith, length-append (round n ps) (p ∷ [])) in
    ap (λ (k : ℕ). drop k (round n ps ++ p ∷ [])) z ∙ drop-append-le 1 (round n ps) (p ∷ []) (omega arith)
