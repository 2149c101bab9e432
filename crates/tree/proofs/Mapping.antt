-- Maps: their loads, and what one change does to them.
use Rattle.std.proofs.Common.{◌≡◌, ℕ, ◌+◌, ◌≤◌, Bool, true, false, cond, not, eqb, List, [], ◌∷◌, ◌++◌, sum_by, filter, sym, refl, ap, ◌∙◌, subst, inl, inr, arith}
use mathlib.Core.Path.{fun_ext}
use Rattle.std.specs.List.{AllByRecursion}
use Rattle.std.proofs.lemmas.List.Sums.{sum_by-cons, sum_by-append}
use Rattle.std.proofs.lemmas.List.Filters.{sum_by-filter_both}
use Rattle.std.proofs.ByRecursion.{all_kept_by, kept_by_passes}
use Rattle.std.proofs.lemmas.Bool.{eq-eqb, ne_eqb, cond-true, cond-false, not-true, not_from_false, both_ways}
use Rattle.keys.specs.Rule.{Rule, Lawful}
use Rattle.tree.specs.Members.{In, Once, Same}
use Rattle.tree.specs.Maps.{Rec, size, Valid, Apart, Sound, without, put, held}
use Rattle.tree.specs.Prefix.{pre}
use Rattle.tree.specs.Loads.{load, loads}
use Rattle.tree.specs.Trees.{buckets}
use Rattle.tree.proofs.Sets.{same_sums}
use Rattle.tree.proofs.Loading.{load_cons, load_nil}
use Rattle.tree.proofs.Growth.{Grows}

-- ---- loads of parts: what a bucket's page holds

module _ {X : Type 0} (hash weight : X → ℕ) where
  pub load_append : (xs ys : List X) (n p : ℕ) → load hash weight (xs ++ ys) n p ≡ load hash weight xs n p + load hash weight ys n p
  unfolding load
  load_append xs ys n p = sum_by-append _ xs ys

  -- records that all begin with p: the load is all their bytes
  pub load_all_in : (xs : List X) (n p : ℕ) → AllByRecursion (λ x. pre 32 (hash x) n ≡ p) xs → load hash weight xs n p ≡ sum_by weight xs
  load_all_in [] n p a = load_nil hash weight n p
  load_all_in (x ∷ xs) n p a =
      omega (arith, load_cons hash weight x xs n p, sum_by-cons weight x xs, load_all_in xs n p a.1, cond-true (eqb (pre 32 (hash x) n) p) (weight x) 0 (eq-eqb _ _ a.0))

  -- records of which none does
  pub load_none_in : (xs : List X) (n p : ℕ) → AllByRecursion (λ x. pre 32 (hash x) n ≡ p → ⊥) xs → load hash weight xs n p ≡ 0
  load_none_in [] n p a = load_nil hash weight n p
  load_none_in (x ∷ xs) n p a =
      omega (arith, load_cons hash weight x xs n p, load_none_in xs n p a.1, cond-false (eqb (pre 32 (hash x) n) p) (weight x) 0 (ne_eqb _ _ a.0))

  -- lists with the same elements, each once
  pub load_same : (xs ys : List X) → Once xs → Once ys → Same xs ys → load hash weight xs ≡ load hash weight ys
  unfolding load
  load_same xs ys a b e = fun_ext (λ n. fun_ext (λ p. same_sums _ xs ys a b e))

  pub load_kept : (t : X → Bool) (xs : List X) (n p : ℕ) → load hash weight (filter t xs) n p + load hash weight (filter (λ x. not (t x)) xs) n p ≡ load hash weight xs n p
  unfolding load
  load_kept t xs n p = sum_by-filter_both t (λ x. not (t x)) (λ x. refl) _ xs

all_both : {X : Type 0} (P Q S : X → Type 0) → ((x : X) → P x → Q x → S x) → (xs : List X) → AllByRecursion P xs → AllByRecursion Q xs → AllByRecursion S xs
all_both P Q S f [] a b = tt
all_both P Q S f (x ∷ xs) a b = (f x a.0 b.0, all_both P Q S f xs a.1 b.1)

pub all_of : {X : Type 0} (P : X → Type 0) → (x : X) (xs : List X) → AllByRecursion P xs → In x xs → P x
all_of P x [] a i = absurd i
all_of P x (y ∷ xs) a (inl e) = subst P e a.0
all_of P x (y ∷ xs) a (inr i) = all_of P x xs a.1 i

pub all_in : {X : Type 0} (P : X → Type 0) → (xs : List X) → ((x : X) → In x xs → P x) → AllByRecursion P xs
all_in P [] f = tt
all_in P (x ∷ xs) f = (f x (inl refl), all_in P xs (λ z i. f z (inr i)))

-- ---- what a filter keeps

pub in_kept : {X : Type 0} (t : X → Bool) (x : X) (xs : List X) → In x (filter t xs) → In x xs × (t x ≡ true)
in_kept t x [] i = absurd i
in_kept t x (y ∷ xs) i = go (λ j. in_kept t x xs j) (t y) refl i
  where
    go : (In x (filter t xs) → In x xs × (t x ≡ true)) → (v : Bool) → t y ≡ v → In x (cond v (y ∷ filter t xs) (filter t xs)) → In x (y ∷ xs) × (t x ≡ true)
    go rest true e (inl z) = (inl z, ap t (sym z) ∙ e)
    go rest true e (inr j) = (inr (rest j).0, (rest j).1)
    go rest false e j = (inr (rest j).0, (rest j).1)

pub kept_in : {X : Type 0} (t : X → Bool) (x : X) (xs : List X) → In x xs → t x ≡ true → In x (filter t xs)
kept_in t x [] i h = absurd i
kept_in t x (y ∷ xs) i h = go (λ j. kept_in t x xs j h) (t y) refl i
  where
    go : (In x xs → In x (filter t xs)) → (v : Bool) → t y ≡ v → In x (y ∷ xs) → In x (cond v (y ∷ filter t xs) (filter t xs))
    go rest true e (inl z) = inl z
    go rest true e (inr j) = inr (rest j)
    go rest false e (inl z) = absurd (both_ways (t y) e (ap t z ∙ h))
    go rest false e (inr j) = rest j

module _ (R : Rule) where
  -- ---- membership after a change

  pub in_without : (k : List ℕ) (m : List Rec) (x : Rec) → In x (without R k m) → In x m × (R.same k x.key ≡ false)
  in_without k m x i =
      let r : In x m × (not (R.same k x.key) ≡ true) = in_kept (λ r. not (R.same k r.key)) x m i in (r.0, not-true _ r.1)

  pub without_in : (k : List ℕ) (m : List Rec) (x : Rec) → In x m → R.same k x.key ≡ false → In x (without R k m)
  without_in k m x i h = kept_in (λ r. not (R.same k r.key)) x m i (not_from_false _ h)

  -- ---- soundness

  pub apart_kept : (t : Rec → Bool) (m : List Rec) → Apart R m → Apart R (filter t m)
  apart_kept t [] a = tt
  apart_kept t (r ∷ m) a = go (apart_kept t m a.1) (t r)
    where
      go : Apart R (filter t m) → (v : Bool) → Apart R (cond v (r ∷ filter t m) (filter t m))
      go rest true = (all_kept_by t (λ s. R.same r.key s.key ≡ false) m a.0, rest)
      go rest false = rest

  pub without_sound : (k : List ℕ) (m : List Rec) → Sound R m → Sound R (without R k m)
  without_sound k m s = record { valid = all_kept_by _ _ m s.valid; apart = apart_kept _ m s.apart }

  pub put_sound : (r : Rec) (m : List Rec) → R.valid r.key ≡ true → Sound R m → Sound R (put R r m)
  put_sound r m v s =
      let w : Sound R (without R r.key m) = without_sound r.key m s in
      record { valid = (v, w.valid); apart = (all_in _ _ (λ x i. (in_without r.key m x i).1), w.apart) }

  module _ (law : Lawful R) where
    -- ---- a map's records differ, and equal maps have equal loads

    pub sound_once : (m : List Rec) → Valid R m → Apart R m → Once m
    sound_once [] v a = tt
    sound_once (r ∷ m) v a = (
      (λ i. both_ways (R.same r.key r.key) (all_of (λ s. R.same r.key s.key ≡ false) r m a.0 i) (law.reflexive r.key v.0)),
      sound_once m v.1 a.1,
    )

    pub same_loads : (m m' : List Rec) → Sound R m → Sound R m' → Same m m' → loads R m ≡ loads R m'
    same_loads m m' s s' e = load_same _ _ m m' (sound_once m s.valid s.apart) (sound_once m' s'.valid s'.apart) e

    pub same_buckets : (m m' : List Rec) → Sound R m → Sound R m' → Same m m' → buckets (loads R m) ≡ buckets (loads R m')
    same_buckets m m' s s' e = ap buckets (same_loads m m' s s' e)

    -- ---- one change: the loads of the key's prefixes all change by one amount, and no other

    taken : (k : List ℕ) (m : List Rec) → R.valid k ≡ true → Valid R m → AllByRecursion (λ r. R.hash r.key ≡ R.hash k) (filter (λ r. R.same k r.key) m)
    taken k m v a =
        all_both _ _ (λ r. R.hash r.key ≡ R.hash k) (λ r p q. sym (law.hashes k r.key v p q)) _
        (all_kept_by (λ r. R.same k r.key) (λ r. R.valid r.key ≡ true) m a) (kept_by_passes (λ r. R.same k r.key) m)

    all_then : (P Q : Rec → Type 0) → ((x : Rec) → P x → Q x) → (xs : List Rec) → AllByRecursion P xs → AllByRecursion Q xs
    all_then P Q f [] a = tt
    all_then P Q f (x ∷ xs) a = (f x a.0, all_then P Q f xs a.1)

    pub without_off : (k : List ℕ) (m : List Rec) → R.valid k ≡ true → Valid R m → (n p : ℕ) → (p ≡ pre 32 (R.hash k) n → ⊥) → loads R (without R k m) n p ≡ loads R m n p
    without_off k m v a n p e =
        omega (
          arith,
          load_kept (λ r. R.hash r.key) size (λ r. R.same k r.key) m n p,
          load_none_in (λ r. R.hash r.key) size (filter (λ r. R.same k r.key) m) n p (all_then _ _ (λ x h z. e (sym z ∙ ap (λ u. pre 32 u n) h)) _ (taken k m v a)),
        )

    pub without_on : (k : List ℕ) (m : List Rec) → R.valid k ≡ true → Valid R m → (n : ℕ) → loads R (without R k m) n (pre 32 (R.hash k) n) + held R k m ≡ loads R m n (pre 32 (R.hash k) n)
    without_on k m v a n =
        omega (
          arith,
          load_kept (λ r. R.hash r.key) size (λ r. R.same k r.key) m n (pre 32 (R.hash k) n),
          load_all_in (λ r. R.hash r.key) size (filter (λ r. R.same k r.key) m) n (pre 32 (R.hash k) n) (all_then _ _ (λ x h. ap (λ u. pre 32 u n) h) _ (taken k m v a)),
        )

    pub put_off : (r : Rec) (m : List Rec) → R.valid r.key ≡ true → Valid R m → (n p : ℕ) → (p ≡ pre 32 (R.hash r.key) n → ⊥) → loads R (put R r m) n p ≡ loads R m n p
    put_off r m v a n p e =
        omega (
          arith,
          load_cons (λ s. R.hash s.key) size r (without R r.key m) n p,
          without_off r.key m v a n p e,
          cond-false (eqb (pre 32 (R.hash r.key) n) p) (size r) 0 (ne_eqb _ _ (λ z. e (sym z))),
        )

    pub put_on : (r : Rec) (m : List Rec) → R.valid r.key ≡ true → Valid R m → (n : ℕ)
        → loads R (put R r m) n (pre 32 (R.hash r.key) n) + held R r.key m ≡ loads R m n (pre 32 (R.hash r.key) n) + size r
    put_on r m v a n =
        omega (
          arith,
          load_cons (λ s. R.hash s.key) size r (without R r.key m) n (pre 32 (R.hash r.key) n),
          without_on r.key m v a n,
          cond-true (eqb (pre 32 (R.hash r.key) n) (pre 32 (R.hash r.key) n)) (size r) 0 (eq-eqb (pre 32 (R.hash r.key) n) (pre 32 (R.hash r.key) n) refl),
        )

    -- a removal shrinks, and a put grows or shrinks
    pub without_shrinks : (k : List ℕ) (m : List Rec) → R.valid k ≡ true → Valid R m → Grows (R.hash k) (loads R (without R k m)) (loads R m)
    without_shrinks k m v a = record { off = λ n p e. sym (without_off k m v a n p e); on = λ n. omega (arith, without_on k m v a n) }

    pub put_grows : (r : Rec) (m : List Rec) → R.valid r.key ≡ true → Valid R m → held R r.key m ≤ size r → Grows (R.hash r.key) (loads R m) (loads R (put R r m))
    put_grows r m v a h = record { off = λ n p e. put_off r m v a n p e; on = λ n. omega (arith, put_on r m v a n) }

    pub put_shrinks : (r : Rec) (m : List Rec) → R.valid r.key ≡ true → Valid R m → size r ≤ held R r.key m → Grows (R.hash r.key) (loads R (put R r m)) (loads R m)
    put_shrinks r m v a h = record { off = λ n p e. sym (put_off r m v a n p e); on = λ n. omega (arith, put_on r m v a n) }
