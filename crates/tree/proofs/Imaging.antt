-- A page's bytes are the load of its prefix, and the records of an image are those of its pages.
use Rattle.std.proofs.Common.{◌≡◌, ℕ, zero, suc, ◌+◌, ◌-◌, ◌*◌, ◌%◌, ◌^◌, ◌<◌, ◌≤◌, true, eqb, List, [], sum_by, sym, ap, ◌∙◌, subst, ap₂, ⊎_elim, arith, pow_pos}
use Rattle.std.proofs.lemmas.Nat.{shr_split, mod-mul-add}
use Rattle.std.proofs.lemmas.Bool.{cases_lt, cases_eq, cases_Bool, eq-eqb, eqb-true, cond-true, cond-false}
use Rattle.tree.specs.Members.{In}
use Rattle.tree.specs.Prefix.{pre}
use Rattle.tree.specs.Loads.{load}
use Rattle.tree.specs.Images.{gathered, at_first, image_map, Pages}
use Rattle.tree.proofs.Prefixes.{pre_filled, pre_across, pre_below, first_below}
use Rattle.tree.proofs.Sets.{in_left, in_right, in_append}
use Rattle.tree.proofs.Loading.{load_nil}
use Rattle.tree.proofs.Mapping.{load_append, load_all_in, load_none_in, all_of, all_in}

-- ---- joined lists

module _ {X : Type 0} (hash weight : X → ℕ) (f : ℕ → List X) (k p : ℕ) where
  gathered_none : (n : ℕ) → ((j : ℕ) → j < n → load hash weight (f j) k p ≡ 0) → load hash weight (gathered f n) k p ≡ 0
  unfolding gathered
  gathered_none zero a = load_nil hash weight k p
  gathered_none (suc n) a = omega (arith, load_append hash weight (gathered f n) (f n) k p, gathered_none n (λ j l. a j (omega arith)), a n (omega arith))

  gathered_one : (n i : ℕ) → i < n → ((j : ℕ) → j < n → (j ≡ i → ⊥) → load hash weight (f j) k p ≡ 0) → load hash weight (gathered f n) k p ≡ load hash weight (f i) k p
  unfolding gathered
  gathered_one zero i h a = absurd (omega arith)
  gathered_one (suc n) i h a =
      ⊎_elim
      (λ (e : i ≡ n). omega (arith, load_append hash weight (gathered f n) (f n) k p, gathered_none n (λ j l. a j (omega arith) (λ z. omega arith)), ap (λ v. load hash weight (f v) k p) e))
      (λ (e : i ≡ n → ⊥).
      omega (arith, load_append hash weight (gathered f n) (f n) k p, gathered_one n i (let lt : i < n = omega arith in lt) (λ j l z. a j (omega arith) z), a n (omega arith) (λ z. e (sym z))))
      (cases_eq i n)

pub in_gathered : {X : Type 0} (f : ℕ → List X) (x : X) (n : ℕ) → In x (gathered f n) → (j : ℕ) × (j < n) × In x (f j)
unfolding gathered
in_gathered f x zero i = absurd i
in_gathered f x (suc n) i =
    ⊎_elim (λ l. let r = in_gathered f x n l in (r.0, omega (arith, r.1), r.2)) (λ r. (n, omega arith, r)) (in_append x (gathered f n) (f n) i)

gathered_in : {X : Type 0} (f : ℕ → List X) (x : X) (n j : ℕ) → j < n → In x (f j) → In x (gathered f n)
unfolding gathered
gathered_in f x zero j h i = absurd (omega arith)
gathered_in f x (suc n) j h i =
    ⊎_elim (λ (e : j ≡ n). in_right x (gathered f n) (f n) (subst (λ v. In x (f v)) e i))
    (λ (e : j ≡ n → ⊥). in_left x (gathered f n) (f n) (gathered_in f x n j (omega arith) i)) (cases_eq j n)

-- ---- the first entry of a page

module _ {X : Type 0} (hash weight : X → ℕ) (w : ℕ) (narrow : w ≤ 32) (d : ℕ → ℕ) (recs : ℕ → List X) (pages : Pages hash w d recs) where
  start : ℕ → ℕ
  start i = pre w i (d i) * 2 ^ (w - d i)

  start_pre : (i : ℕ) → pre w (start i) (d i) ≡ pre w i (d i)
  unfolding start
  start_pre i = pre_filled w (pre w i (d i)) (d i)

  start_below : (i : ℕ) → i < 2 ^ w → start i < 2 ^ w
  unfolding start
  start_below i h = let s = pages.parts.short i h in first_below w (d i) (pre w i (d i)) s (pre_below w i (d i) s h)

  start_length : (i : ℕ) → i < 2 ^ w → d (start i) ≡ d i
  start_length i h = pages.parts.whole i (start i) h (start_below i h) (start_pre i)

  start_first : (i : ℕ) → i < 2 ^ w → eqb (start i % 2 ^ (w - d (start i))) 0 ≡ true
  unfolding start
  start_first i h =
      let z : (pre w i (d i) * 2 ^ (w - d i) + 0) % 2 ^ (w - d i) ≡ 0 = mod-mul-add (pre w i (d i)) (2 ^ (w - d i)) 0 (pow_pos (w - d i)) in
      let y : start i + 0 ≡ start i = omega arith in
      eq-eqb _ _ (ap (λ v. start i % 2 ^ (w - v)) (start_length i h) ∙ ap (λ v. v % 2 ^ (w - d i)) (sym y) ∙ z)

  -- an entry that is the first of its page stands where its prefix starts
  first_start : (j : ℕ) → eqb (j % 2 ^ (w - d j)) 0 ≡ true → j ≡ start j
  unfolding start
  first_start j t = omega (arith, shr_split j (w - d j), eqb-true (j % 2 ^ (w - d j)) 0 t)

  start_recs : (i : ℕ) → i < 2 ^ w → at_first w d recs (start i) ≡ recs i
  start_recs i h = cond-true _ _ _ (start_first i h) ∙ pages.shared i (start i) h (start_below i h) (start_pre i)

  -- no record of another page begins with i's prefix
  pub apart : (i j : ℕ) → i < 2 ^ w → j < 2 ^ w → (x : X) → In x (recs j) → pre 32 (hash x) (d i) ≡ pre w i (d i) → pre w j (d i) ≡ pre w i (d i)
  apart i j h l x i' e =
      let b : pre 32 (hash x) (d j) ≡ pre w j (d j) = all_of _ x (recs j) (pages.begin j l) i' in
      let si = pages.parts.short i h in
      let sj = pages.parts.short j l in
      ⊎_elim
      (λ (lt : d j < d i).
      let c : pre w i (d j) ≡ pre w j (d j) = sym (pre_across 32 (hash x) w i (d i) (d j) (omega arith) (omega arith) si e) ∙ b in
      let z : d i ≡ d j = pages.parts.whole j i l h c in
      absurd (omega arith))
      (λ (ge : d i ≤ d j). sym (pre_across 32 (hash x) w j (d j) (d i) ge (omega arith) sj b) ∙ e) (cases_lt (d j) (d i))

  others : (i j : ℕ) → i < 2 ^ w → j < 2 ^ w → (j ≡ start i → ⊥) → load hash weight (at_first w d recs j) (d i) (pre w i (d i)) ≡ 0
  unfolding start
  others i j h l ne =
      ⊎_elim
      (λ t. ap (λ xs. load hash weight xs (d i) (pre w i (d i))) (cond-true _ (recs j) [] t)
      ∙ load_none_in hash weight (recs j) (d i) (pre w i (d i))
      (all_in _ (recs j) (λ x i' e.
      let a = apart i j h l x i' e in
      let z : d j ≡ d i = pages.parts.whole i j h l a in
      ne (first_start j t ∙ ap₂ (λ u v. u * 2 ^ (w - v)) (ap (pre w j) z ∙ a) z))))
      (λ t. ap (λ xs. load hash weight xs (d i) (pre w i (d i))) (cond-false _ (recs j) [] t) ∙ load_nil hash weight (d i) (pre w i (d i)))
      (cases_Bool (eqb (j % 2 ^ (w - d j)) 0))

  -- the load of a page's prefix is what its records weigh
  pub page_load : (i : ℕ) → i < 2 ^ w → load hash weight (image_map w d recs) (d i) (pre w i (d i)) ≡ sum_by weight (recs i)
  page_load i h =
      gathered_one hash weight (at_first w d recs) (d i) (pre w i (d i)) (2 ^ w) (start i) (start_below i h) (λ j l ne. others i j h l ne)
      ∙ ap (λ xs. load hash weight xs (d i) (pre w i (d i))) (start_recs i h)
      ∙ load_all_in hash weight (recs i) (d i) (pre w i (d i)) (pages.begin i h)

  -- the records of the image are those of its pages
  pub image_has : (x : X) (i : ℕ) → i < 2 ^ w → In x (recs i) → In x (image_map w d recs)
  image_has x i h a = gathered_in (at_first w d recs) x (2 ^ w) (start i) (start_below i h) (subst (In x) (sym (start_recs i h)) a)

  pub image_in : (x : X) → In x (image_map w d recs) → (i : ℕ) × (i < 2 ^ w) × In x (recs i)
  image_in x a =
      let r = in_gathered (at_first w d recs) x (2 ^ w) a in
      (r.0, r.1, ⊎_elim (λ t. subst (In x) (cond-true _ (recs r.0) [] t) r.2) (λ t. absurd (let z : In x [] = subst (In x) (cond-false _ (recs r.0) [] t) r.2 in z)) (cases_Bool (eqb (r.0 % 2 ^ (w - d r.0)) 0)))
