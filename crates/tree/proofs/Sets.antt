-- Lists as sets: membership in joined lists, and lists with the same elements, each once, have the same sums.
use Rattle.std.proofs.Common.{◌≡◌, ℕ, zero, suc, ◌+◌, ◌<◌, ◌⊎◌, List, [], ◌∷◌, ◌++◌, length, sum_by, sym, refl, ap, ◌∙◌, subst, inl, inr, ⊎_elim, arith}
use Rattle.std.proofs.lemmas.Bool.{cases_eq}
use Rattle.std.proofs.lemmas.List.Sums.{sum_by-cons}
use Rattle.tree.specs.Members.{In, Once, Same}

module _ {X : Type 0} where
  pub in_left : (x : X) (xs ys : List X) → In x xs → In x (xs ++ ys)
  in_left x [] ys i = absurd i
  in_left x (y ∷ xs) ys (inl e) = inl e
  in_left x (y ∷ xs) ys (inr i) = inr (in_left x xs ys i)

  pub in_right : (x : X) (xs ys : List X) → In x ys → In x (xs ++ ys)
  in_right x [] ys i = i
  in_right x (y ∷ xs) ys i = inr (in_right x xs ys i)

  pub in_append : (x : X) (xs ys : List X) → In x (xs ++ ys) → In x xs ⊎ In x ys
  in_append x [] ys i = inr i
  in_append x (y ∷ xs) ys (inl e) = inl (inl e)
  in_append x (y ∷ xs) ys (inr i) = ⊎_elim (λ j. inl (inr j)) (λ j. inr j) (in_append x xs ys i)

  pub once_append : (xs ys : List X) → Once xs → Once ys → ((x : X) → In x xs → In x ys → ⊥) → Once (xs ++ ys)
  once_append [] ys a b c = b
  once_append (x ∷ xs) ys a b c =
      ((λ i. ⊎_elim (λ j. a.0 j) (λ j. c x (inl refl) j) (in_append x xs ys i)), once_append xs ys a.1 b (λ z i j. c z (inr i) j))

  -- xs without the element at the place that i gives
  less : (x : X) (xs : List X) → In x xs → List X
  less x [] i = []
  less x (y ∷ xs) (inl e) = xs
  less x (y ∷ xs) (inr i) = y ∷ less x xs i

  less_sum : (f : X → ℕ) (x : X) (xs : List X) (i : In x xs) → sum_by f xs ≡ f x + sum_by f (less x xs i)
  unfolding less
  less_sum f x [] i = absurd i
  less_sum f x (y ∷ xs) (inl e) = sum_by-cons f y xs ∙ ap (λ z. f z + sum_by f xs) e
  less_sum f x (y ∷ xs) (inr i) = omega (arith, sum_by-cons f y xs, sum_by-cons f y (less x xs i), less_sum f x xs i)

  less_in : (x z : X) (xs : List X) (i : In x xs) → In z (less x xs i) → In z xs
  unfolding less
  less_in x z [] i j = absurd i
  less_in x z (y ∷ xs) (inl e) j = inr j
  less_in x z (y ∷ xs) (inr i) (inl e) = inl e
  less_in x z (y ∷ xs) (inr i) (inr j) = inr (less_in x z xs i j)

  less_other : (x z : X) (xs : List X) (i : In x xs) → In z xs → (x ≡ z) ⊎ In z (less x xs i)
  unfolding less
  less_other x z [] i j = absurd i
  less_other x z (y ∷ xs) (inl e) (inl e') = inl (sym e ∙ e')
  less_other x z (y ∷ xs) (inl e) (inr j) = inr j
  less_other x z (y ∷ xs) (inr i) (inl e) = inr (inl e)
  less_other x z (y ∷ xs) (inr i) (inr j) = ⊎_elim (λ e. inl e) (λ k. inr (inr k)) (less_other x z xs i j)

  less_once : (x : X) (xs : List X) (i : In x xs) → Once xs → Once (less x xs i) × (In x (less x xs i) → ⊥)
  unfolding less
  less_once x [] i o = absurd i
  less_once x (y ∷ xs) (inl e) o = (o.1, λ j. o.0 (subst (λ z. In z xs) (sym e) j))
  less_once x (y ∷ xs) (inr i) o =
      let r : Once (less x xs i) × (In x (less x xs i) → ⊥) = less_once x xs i o.1 in
      (((λ j. o.0 (less_in x y xs i j)), r.0), ⊎_elim (λ e. o.0 (subst (λ z. In z xs) (sym e) i)) r.1)

  -- two lists of the same elements, each once, have the same sums: the loads, the number of records, the value bytes of a class
  pub same_sums : (f : X → ℕ) (xs ys : List X) → Once xs → Once ys → Same xs ys → sum_by f xs ≡ sum_by f ys
  same_sums f [] [] a b e = refl
  same_sums f [] (y ∷ ys) a b e = absurd ((e y).1 (inl refl))
  same_sums f (x ∷ xs) ys a b e =
      let i : In x ys = (e x).0 (inl refl) in
      omega (
        arith,
        sum_by-cons f x xs,
        less_sum f x ys i,
        same_sums f xs (less x ys i) a.1 (less_once x ys i b).0
            (λ z. (
              (λ j. ⊎_elim (λ e'. absurd (a.0 (subst (λ v. In v xs) (sym e') j))) (λ k. k) (less_other x z ys i ((e z).0 (inr j)))),
              (λ j. ⊎_elim (λ e'. absurd ((less_once x ys i b).1 (subst (λ v. In v (less x ys i)) (sym e') j))) (λ k. k) ((e z).1 (less_in x z ys i j))),
            )),
      )

  pub same_refl : (xs : List X) → Same xs xs
  same_refl xs x = ((λ i. i), λ i. i)

  pub same_sym : (xs ys : List X) → Same xs ys → Same ys xs
  same_sym xs ys e x = ((e x).1, (e x).0)

  pub same_trans : (xs ys zs : List X) → Same xs ys → Same ys zs → Same xs zs
  same_trans xs ys zs e f x = ((λ i. (f x).0 ((e x).0 i)), λ i. (e x).1 ((f x).1 i))

-- ---- a number that a short list leaves free: an unused page

in_dec : (k : ℕ) (xs : List ℕ) → In k xs ⊎ (In k xs → ⊥)
in_dec k [] = inr (λ i. i)
in_dec k (x ∷ xs) =
    ⊎_elim (λ e. inl (inl e)) (λ n. ⊎_elim (λ i. inl (inr i)) (λ m. inr (⊎_elim n m)) (in_dec k xs)) (cases_eq x k)

less_length : {X : Type 0} (x : X) (xs : List X) (i : In x xs) → suc (length (less x xs i)) ≡ length xs
unfolding less
less_length x [] i = absurd i
less_length x (y ∷ xs) (inl e) = refl
less_length x (y ∷ xs) (inr i) = ap suc (less_length x xs i)

pub free_number : (b : ℕ) (xs : List ℕ) → length xs < b → (k : ℕ) × (k < b) × (In k xs → ⊥)
free_number zero xs h = absurd (omega arith)
free_number (suc b) xs h =
    ⊎_elim
    (λ i. let r = free_number b (less b xs i) (omega (arith, less_length b xs i)) in
    (r.0, omega (arith, r.1), λ j. ⊎_elim (λ e. omega (arith, e, r.1)) r.2 (less_other b r.0 xs i j)))
    (λ n. (b, omega arith, n)) (in_dec b xs)
