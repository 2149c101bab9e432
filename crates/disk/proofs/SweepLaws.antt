-- A walk over the pages that settles them one by one.
use Rattle.std.proofs.Common.{◌≡◌, ℕ, ◌+◌, ◌-◌, ◌*◌, ◌<◌, ◌≤◌, ◌%◌, ◌++◌, [], ◌∷◌, mod-lt, true, false, cond, not, eqb, List, length, get_or, take, drop, set, replicate, sym, refl, ap, ◌∙◌, add-one, add-zero, arith, below_more}
use Rattle.std.proofs.lemmas.List.{length-append, length-take-le, length-replicate, length-drop, get_or_append_left, get_or-append_right, get_or-replicate, get_or-drop, get_or-map, length-map, set-get_or}
use Rattle.std.proofs.lemmas.List.Edits.{fill_none, fill_more}
use Rattle.std.proofs.lemmas.Bool.{cond-true, cond-false, ne_eqb}
use Rattle.disk.specs.Raw.{raw, put_raw, chosen}
use Rattle.disk.specs.Image.{cleared, count_of, current, cut_page, marked, CutTo, Settled, Swept, rank}
use Rattle.disk.specs.HeldSound.{raw_size}
use Rattle.disk.specs.Arm.{byte_of, bytes_of, letter_of}
use Rattle.disk.specs.declared.arming.Letter.{Letter}
use Rattle.disk.specs.declared.arming.Letter.TheVariants.{Old}
use Rattle.disk.proofs.RawLaws.{length_chosen, length_put, raw_put, raw_other, drop_put}

-- the pages lie within the images
module _ (s w k : List ℕ) where
  pub count_settled : count_of s w k * 256 ≤ length s
  unfolding count_of
  count_settled = omega arith

  pub count_written : count_of s w k * 256 ≤ length w
  unfolding count_of
  count_written = omega arith

  pub count_marks : count_of s w k ≤ length k
  unfolding count_of
  count_marks = omega arith

pub cleared_none : (k : List ℕ) → k ≡ cleared 0 k
unfolding cleared
cleared_none k = fill_none k 0

pub cleared_more : (i : ℕ) (k k' : List ℕ) → i < length k → k' ≡ cleared i k → set k' i 0 ≡ cleared (i + 1) k
unfolding cleared
cleared_more i k k' h e = ap (λ t. set t i 0) e ∙ fill_more i 0 k h

-- the first n marks are filled with 0
pub fill_front : (n m : ℕ) (k front : List ℕ) → n ≡ m → m ≤ length k → front ≡ replicate (length (take (n - 0) k)) 0 → front ++ drop (n - 0) k ≡ cleared m k
unfolding cleared
fill_front n m k front e h f =
    let z : n - 0 ≡ m = omega arith in
    ap (λ t. t ++ drop (n - 0) k) f ∙ (ap (λ i. replicate (length (take i k)) 0 ++ drop i k) z ∙ ap (λ l. replicate l 0 ++ drop m k) (length-take-le m k h))

pub length_cleared : (n : ℕ) (k : List ℕ) → n ≤ length k → length (cleared n k) ≡ length k
unfolding cleared
length_cleared n k h = simp (length-append, length-replicate, length-drop) (omega arith)

pub cleared_below : (n : ℕ) (k : List ℕ) (i : ℕ) → i < n → get_or (cleared n k) i 0 ≡ 0
unfolding cleared
cleared_below n k i h = get_or_append_left (replicate n 0) (drop n k) 0 i (simp length-replicate h) ∙ get_or-replicate n i 0 0 h

pub cleared_past : (n : ℕ) (k : List ℕ) (i : ℕ) → n ≤ i → get_or (cleared n k) i 0 ≡ get_or k i 0
unfolding cleared
cleared_past n k i h =
    get_or-append_right (replicate n 0) (drop n k) n i 0 (length-replicate n 0) h
    ∙ (get_or-drop n k (i - n) 0 ∙ ap (λ m. get_or k m 0) (let z : n + (i - n) ≡ i = omega arith in z))

pub not_marked : (k : List ℕ) (i : ℕ) → get_or k i 0 ≡ 0 → marked k i ≡ false
unfolding marked
not_marked k i e = ap (λ v. not (eqb v 0)) e

pub is_marked : (k : List ℕ) (i : ℕ) → (get_or k i 0 ≡ 0 → ⊥) → marked k i ≡ true
unfolding marked
is_marked k i ne = ap not (ne_eqb (get_or k i 0) 0 ne)

module _ (f : ℕ → List ℕ) (s k : List ℕ) (n : ℕ) where
  pub swept_none : Swept f s k n 0 s k
  swept_none = record { length_s = refl; done = λ j h. absurd (omega arith); todo = λ j a b. refl; rest = refl; marks = cleared_none k }

  module _ (fits : n * 256 ≤ length s) (marks_fit : n ≤ length k) (i : ℕ) (s' k' : List ℕ) (h : Swept f s k n i s' k') (lt : i < n) where
    -- the page is not marked, and keeps what it has
    pub swept_keep : get_or k' i 0 ≡ 0 → raw s i ≡ f i → Swept f s k n (i + 1) s' k'
    swept_keep z e = record {
      length_s = h.length_s;
      done = below_more (λ j. raw s' j ≡ f j) i h.done (h.todo i (omega arith) lt ∙ e);
      todo = λ j a b. h.todo j (omega arith) b;
      rest = h.rest;
      marks = sym (ap (set k' i) (sym z) ∙ set-get_or k' i 0) ∙ cleared_more i k k' (omega arith) h.marks;
    }

    -- the page gets x
    pub swept_put : (x : List ℕ) → length x ≡ 256 → x ≡ f i → Swept f s k n (i + 1) (put_raw s' i x) (set k' i 0)
    swept_put x l e =
        let fit : i * 256 + 256 ≤ length s' = omega (arith, h.length_s) in
        record {
          length_s = length_put s' x i fit l ∙ h.length_s;
          done = below_more (λ j. raw (put_raw s' i x) j ≡ f j) i
              (λ j b. raw_other s' x i j fit l (λ q. let ne : j ≡ i = q in omega arith) (omega (arith, h.length_s)) ∙ h.done j b)
              (raw_put s' x i fit l ∙ e);
          todo = λ j a b. raw_other s' x i j fit l (λ q. let ne : j ≡ i = q in omega arith) (omega (arith, h.length_s)) ∙ h.todo j (omega arith) b;
          rest = drop_put s' x i (n * 256) fit l (omega arith) ∙ h.rest;
          marks = cleared_more i k k' (omega arith) h.marks;
        }

    pub marked_still : marked k' i ≡ marked k i
    unfolding marked
    marked_still = ap (λ v. not (eqb v 0)) (ap (λ t. get_or t i 0) h.marks ∙ cleared_past i k i (omega arith))

    pub marks_stay : length k' ≡ length k
    marks_stay = ap length h.marks ∙ length_cleared i k (omega arith)

pub rank_none : (k : List ℕ) → rank k 0 ≡ 0
unfolding rank
rank_none k = refl

pub rank_more : (k : List ℕ) (i : ℕ) → rank k (i + 1) ≡ rank k i + cond (marked k i) 1 0
unfolding rank
rank_more k i = ap (rank k) (add-one i)

-- a walk is one by any f that leaves the same at the pages
pub swept_as : (f g : ℕ → List ℕ) (s k : List ℕ) (n : ℕ) (s' k' : List ℕ) → ((i : ℕ) → i < n → f i ≡ g i) → Swept f s k n n s' k' → Swept g s k n n s' k'
swept_as f g s k n s' k' e h = record { length_s = h.length_s; done = λ j b. h.done j b ∙ e j b; todo = h.todo; rest = h.rest; marks = h.marks }

-- a letter of the bytes of an arming's letters is the byte of its letter
pub letter_at : (ls : List Letter) (n : ℕ) → 0 < length ls → byte_of (get_or ls (n % length ls) Old) ≡ letter_of (bytes_of ls) n
unfolding letter_of
letter_at ls n p =
    sym (get_or-map byte_of ls (n % length ls) Old 0 (mod-lt n p)) ∙ ap (λ m. get_or (bytes_of ls) (n % m) 0) (sym (length-map ls byte_of))

-- what a cut leaves at page i
module _ (s w k ls : List ℕ) (T i : ℕ) where
  pub cut_marked : (l : ℕ) (old new : List ℕ) → l ≡ letter_of ls (rank k i) → old ≡ raw s i → new ≡ raw w i → marked k i ≡ true → chosen l T old new ≡ cut_page s w k ls T i
  unfolding cut_page
  cut_marked l old new a b c m = rw (a, b, c) (sym (cond-true (marked k i) _ (raw s i) m))

  pub cut_unmarked : marked k i ≡ false → raw s i ≡ cut_page s w k ls T i
  unfolding cut_page
  cut_unmarked m = sym (cond-false (marked k i) _ (raw s i) m)

-- a step of a cut over the pages that s, w and k have, at page i of s', w' and k', which comes after `turn` unsettled ones
module _ (s w k : List ℕ) (ls : List Letter) (T i turn : ℕ) (s' w' k' : List ℕ) (some : 0 < length ls) (lt : i < count_of s w k)
    (h : Swept (cut_page s w k (bytes_of ls) T) s k (count_of s w k) i s' k') (same : w' ≡ w) (at : turn ≡ rank k i) where
  still : marked k' i ≡ marked k i
  still = marked_still _ s k _ (count_settled s w k) (count_marks s w k) i s' k' h lt

  pub cut_step : (get_or k' i 0 ≡ 0 → ⊥)
      → (turn + 1 ≡ rank k (i + 1)) × Swept (cut_page s w k (bytes_of ls) T) s k (count_of s w k) (i + 1) (put_raw s' i (chosen (byte_of (get_or ls (turn % length ls) Old)) T (raw s' i) (raw w' i))) (set k' i 0)
  cut_step ne =
      let m = sym still ∙ is_marked k' i ne in
      let old = h.todo i (omega arith) lt in
      let new = ap (λ v. raw v i) same in
      let l = raw_size w i (omega (arith, count_written s w k)) in (
        ap (λ t. t + 1) at ∙ sym (rank_more k i ∙ ap (λ b. rank k i + cond b 1 0) m),
        swept_put _ s k _ (count_settled s w k) (count_marks s w k) i s' k' h lt _
            (length_chosen _ T (raw s' i) (raw w' i) (ap length old ∙ raw_size s i (omega (arith, count_settled s w k))) (ap length new ∙ l))
            (cut_marked s w k (bytes_of ls) T i _ _ _ (letter_at ls turn some ∙ ap (letter_of (bytes_of ls)) at) old new m),
      )

  pub keep_step : get_or k' i 0 ≡ 0 → (turn ≡ rank k (i + 1)) × Swept (cut_page s w k (bytes_of ls) T) s k (count_of s w k) (i + 1) s' k'
  keep_step e =
      let m = sym still ∙ not_marked k' i e in (
        at ∙ sym (rank_more k i ∙ ap (λ b. rank k i + cond b 1 0) m ∙ add-zero (rank k i)),
        swept_keep _ s k _ (count_settled s w k) (count_marks s w k) i s' k' h lt e (cut_unmarked s w k (bytes_of ls) T i m),
      )

-- a cut by the letter n alone settles all that was written
module _ (s w k : List ℕ) (T : ℕ) where
  new_page : (i : ℕ) → cut_page s w k (110 ∷ []) T i ≡ current s w k i
  unfolding cut_page current chosen letter_of
  new_page i = let z : rank k i % 1 ≡ 0 = omega arith in rw z refl

  pub new_settles : (s' k' : List ℕ) → CutTo s w k (110 ∷ []) T s' k' → Settled s w k s' k'
  new_settles s' k' h = swept_as _ _ s k _ s' k' (λ i b. new_page i) h
