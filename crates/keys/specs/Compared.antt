-- Two keys are the same where some form of them is equal: the laws, for any form.
use Rattle.std.specs.Prelude.{◌≡◌, ℕ, true, List, refl}
use Rattle.std.proofs.Common.{sym, ap, ◌∙◌}
use Rattle.std.specs.Str.{bytes_eq}
use Rattle.std.proofs.lemmas.Slice.Eq.{bytes_eq-Decides}

module _ (form : List ℕ → List ℕ) where
  equal : (j k : List ℕ) → bytes_eq (form j) (form k) ≡ true → form j ≡ form k
  equal j k = (bytes_eq-Decides (form j) (form k)).0

  pub same_refl : (k : List ℕ) → bytes_eq (form k) (form k) ≡ true
  same_refl k = (bytes_eq-Decides (form k) (form k)).1 refl

  pub same_sym : (j k : List ℕ) → bytes_eq (form j) (form k) ≡ true → bytes_eq (form k) (form j) ≡ true
  same_sym j k e = (bytes_eq-Decides (form k) (form j)).1 (sym (equal j k e))

  pub same_trans : (i j k : List ℕ) → bytes_eq (form i) (form j) ≡ true → bytes_eq (form j) (form k) ≡ true → bytes_eq (form i) (form k) ≡ true
  same_trans i j k d e = (bytes_eq-Decides (form i) (form k)).1 (equal i j d ∙ equal j k e)

  -- what is made of the form alone agrees
  pub same_made : (made : List ℕ → ℕ) (j k : List ℕ) → bytes_eq (form j) (form k) ≡ true → made (form j) ≡ made (form k)
  same_made made j k e = ap made (equal j k e)
