-- A walk over the records of a bucket that takes those that a change leaves.
use Rattle.std.proofs.Common.{◌≡◌, ℕ, ◌+◌, ◌-◌, ◌<◌, ◌≤◌, Bool, true, false, List, ◌∷◌, ◌++◌, length, sum_by, filter, Option, None, Some, MatchOption, ap, ◌∙◌, arith}
use Rattle.std.proofs.lemmas.List.Sums.{sum_by-cons}
use Rattle.std.proofs.lemmas.Bool.{cond-true, cond-false}
use Rattle.tree.specs.Maps.{Rec, size}
use Rattle.tree.specs.Trees.{room}
use Rattle.pages.specs.Records.{record_bytes, records}
use Rattle.pages.proofs.Walks.{one_more, no_more, shorter}
use Rattle.bucket.specs.Sifts.{FirstRoom}

module _ (t : Rec → Bool) where
  -- the load so far, and that of what is left, are the whole
  abbrev pub Loaded : List ℕ → List ℕ → ℕ → Type 0
  Loaded bs left n = (rs : List Rec) → bs ≡ records rs → (more : List Rec) × (left ≡ records more) × (n + sum_by size (filter t more) ≡ sum_by size (filter t rs))

  pub loaded_kept : (bs left after : List ℕ) (x : Rec) (n : ℕ) → left ≡ record_bytes x ++ after → t x ≡ true → Loaded bs left n → Loaded bs after (n + (length left - length after))
  loaded_kept bs left after x n e h c = λ rs r.
      let k = c rs r in
      let o = one_more left after x k.0 e k.1 in
      let z : sum_by size (filter t k.0) ≡ size x + sum_by size (filter t o.0) =
      ap (λ (l : List Rec). sum_by size (filter t l)) o.1 ∙ ap (sum_by size) (cond-true (t x) (x ∷ filter t o.0) (filter t o.0) h) ∙ sum_by-cons size x (filter t o.0) in
      (o.0, o.2, omega (arith, k.2, z, shorter left after x e))

  pub loaded_not : (bs left after : List ℕ) (x : Rec) (n : ℕ) → left ≡ record_bytes x ++ after → t x ≡ false → Loaded bs left n → Loaded bs after n
  loaded_not bs left after x n e h c = λ rs r.
      let k = c rs r in
      let o = one_more left after x k.0 e k.1 in
      let z : sum_by size (filter t k.0) ≡ sum_by size (filter t o.0) =
      ap (λ (l : List Rec). sum_by size (filter t l)) o.1 ∙ ap (sum_by size) (cond-false (t x) (x ∷ filter t o.0) (filter t o.0) h) in
      (o.0, o.2, omega (arith, k.2, z))

  pub loaded_all : (bs left : List ℕ) (n : ℕ) → ((x : Rec) (rest : List ℕ) → left ≡ record_bytes x ++ rest → ⊥) → Loaded bs left n → (rs : List Rec) → bs ≡ records rs → n ≡ sum_by size (filter t rs)
  loaded_all bs left n un c rs r =
      let k = c rs r in
      omega (arith, k.2, ap (λ (l : List Rec). sum_by size (filter t l)) (no_more left k.0 un k.1))

-- the first number of bits under which a load has room
pub first_room : (load : ℕ → ℕ) (low : ℕ) (r : Option ℕ)
    → MatchOption r ((k : ℕ) → low ≤ k → k < 9 → room < load k) (λ n. (low ≤ n) × (n < 9) × (load n ≤ room) × ((k : ℕ) → low ≤ k → k < n → room < load k)) → FirstRoom load low r
first_room load low None h = λ k a b. h k a (omega arith)
first_room load low (Some n) h = (h.0, omega (arith, h.1), h.2, h.3)
