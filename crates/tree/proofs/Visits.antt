-- A walk along the directory that visits each bucket once.
use Rattle.std.proofs.Common.{◌≡◌, ℕ, zero, suc, ◌+◌, ◌-◌, ◌*◌, ◌^◌, ◌<◌, ◌≤◌, List, [], ◌∷◌, ◌++◌, length, sym, refl, ap, ◌∙◌, subst, ap₂, inl, inr, ⊎_elim, mul_assoc, add-mul, pow-suc, zero-add, zero-mul, mul_left_comm, arith, pow_pos}
use native.Mathlib.Nat.{sub-zero}
use Rattle.std.proofs.lemmas.Bool.{cases_lt}
use Rattle.tree.specs.Members.{In}
use Rattle.tree.specs.Prefix.{pre}
use Rattle.tree.specs.Loads.{Loads}
use Rattle.tree.specs.Trees.{Bucket, Falls, tree, buckets, room}
use Rattle.tree.proofs.Prefixes.{pre_filled}
use Rattle.tree.proofs.Partition.{falls_once, bucket_falls}
use Rattle.tree.proofs.Listing.{tree_leaf, tree_node}

-- no prefix of D bits has a load above 248: no bucket is longer than D
abbrev pub Deep : Loads → ℕ → Type 0
Deep L D = (p : ℕ) → p < 2 ^ D → L D p ≤ room

-- the prefixes bs cover the entries from a up to z of a directory of 2 ^ D entries, one after the other
abbrev pub Tiles : ℕ → List (ℕ × ℕ) → ℕ → ℕ → Type 0
Tiles D [] a z = a ≡ z
Tiles D (b ∷ bs) a z = (b.1 * 2 ^ (D - b.0) ≡ a) × Tiles D bs (a + 2 ^ (D - b.0)) z

tiles_append : (D : ℕ) (xs ys : List (ℕ × ℕ)) (a y z : ℕ) → Tiles D xs a y → Tiles D ys y z → Tiles D (xs ++ ys) a z
tiles_append D [] ys a y z s t = subst (λ v. Tiles D ys v z) (sym s) t
tiles_append D (x ∷ xs) ys a y z s t = (s.0, tiles_append D xs ys (a + 2 ^ (D - x.0)) y z s.1 t)

double : (D k : ℕ) → k < D → 2 ^ (D - k) ≡ 2 ^ (D - suc k) + 2 ^ (D - suc k)
double D k h = let e : D - k ≡ suc (D - suc k) = omega arith in ap (λ j. 2 ^ j) e ∙ pow-suc 2 (D - suc k) ∙ (omega arith)

twice : (q u v : ℕ) → u ≡ v + v → 2 * q * v ≡ q * u
twice q u v e = mul_assoc 2 q v ∙ mul_left_comm 2 q v ∙ ap (λ j. q * j) (let z : 2 * v ≡ u = omega arith in z)

odd : (q v : ℕ) → (2 * q + 1) * v ≡ 2 * q * v + v
odd q v = add-mul (2 * q) 1 v ∙ (omega arith)

module _ (L : Loads) (D : ℕ) (deep : Deep L D) where
  -- a prefix above room has fewer than D bits
  higher : (k q : ℕ) → k ≤ D → q < 2 ^ k → room < L k q → k < D
  higher k q h l heavy =
      ⊎_elim (λ lt. lt) (λ (ge : D ≤ k). let z : k ≡ D = omega arith in absurd (omega (arith, heavy, deep q (subst (λ j. q < 2 ^ j) z l), ap (λ j. L j q) z))) (cases_lt k D)

  tree_tiles : (d k q : ℕ) → k ≤ D → D ≤ k + d → q < 2 ^ k → Tiles D (tree L d k q) (q * 2 ^ (D - k)) (q * 2 ^ (D - k) + 2 ^ (D - k))
  tree_tiles zero k q h w l =
      ⊎_elim (λ heavy. absurd (omega (arith, higher k q h l heavy)))
      (λ small. subst (λ bs. Tiles D bs (q * 2 ^ (D - k)) (q * 2 ^ (D - k) + 2 ^ (D - k))) (sym (tree_leaf L 0 k q small)) (refl, refl)) (cases_lt room (L k q))
  tree_tiles (suc d) k q h w l =
      ⊎_elim
      (λ heavy.
      let lt : k < D = higher k q h l heavy in
      let u = double D k lt in
      let a = twice q (2 ^ (D - k)) (2 ^ (D - suc k)) u in
      let s = tree_tiles d (suc k) (2 * q) lt (omega arith) (omega (arith, pow-suc 2 k)) in
      let t = tree_tiles d (suc k) (2 * q + 1) lt (omega arith) (omega (arith, pow-suc 2 k)) in
      let z : (2 * q + 1) * 2 ^ (D - suc k) ≡ q * 2 ^ (D - k) + 2 ^ (D - suc k) = omega (arith, odd q (2 ^ (D - suc k)), a) in
      let y : q * 2 ^ (D - k) + 2 ^ (D - suc k) + 2 ^ (D - suc k) ≡ q * 2 ^ (D - k) + 2 ^ (D - k) = omega (arith, u) in
      subst (λ bs. Tiles D bs (q * 2 ^ (D - k)) (q * 2 ^ (D - k) + 2 ^ (D - k))) (sym (tree_node L d k q heavy))
      (tiles_append D (tree L d (suc k) (2 * q)) (tree L d (suc k) (2 * q + 1)) (q * 2 ^ (D - k)) (q * 2 ^ (D - k) + 2 ^ (D - suc k)) (q * 2 ^ (D - k) + 2 ^ (D - k))
      (subst (λ v. Tiles D (tree L d (suc k) (2 * q)) v (v + 2 ^ (D - suc k))) a s)
      (subst (λ v. Tiles D (tree L d (suc k) (2 * q + 1)) (q * 2 ^ (D - k) + 2 ^ (D - suc k)) v) y
      (subst (λ v. Tiles D (tree L d (suc k) (2 * q + 1)) v (v + 2 ^ (D - suc k))) z t))))
      (λ small. subst (λ bs. Tiles D bs (q * 2 ^ (D - k)) (q * 2 ^ (D - k) + 2 ^ (D - k))) (sym (tree_leaf L (suc d) k q small)) (refl, refl)) (cases_lt room (L k q))

  -- the buckets from left to right cover the directory
  pub buckets_tile : D ≤ 8 → Tiles D (buckets L) 0 (2 ^ D)
  buckets_tile h =
      let t = tree_tiles 8 0 0 (omega arith) (omega arith) (omega arith) in
      let a : 0 * 2 ^ (D - 0) ≡ 0 = zero-mul (2 ^ (D - 0)) in
      let z : 0 + 2 ^ (D - 0) ≡ 2 ^ D = zero-add (2 ^ (D - 0)) ∙ ap (λ j. 2 ^ j) (sub-zero D) in
      subst (λ v. Tiles D (buckets L) 0 v) z (subst (λ v. Tiles D (buckets L) v (v + 2 ^ (D - 0))) a t)

-- ---- the walk: at the entry i, the next bucket is the one that i falls into

walk_ends : (D : ℕ) (bs : List (ℕ × ℕ)) (i z : ℕ) → Tiles D bs i z → i ≤ z
walk_ends D [] i z t = omega arith
walk_ends D (b ∷ bs) i z t = omega (arith, walk_ends D bs (i + 2 ^ (D - b.0)) z t.1)

-- from the buckets that are left, bs, the next one and those left after it
walk_next : (L : Loads) (D : ℕ) (bs : List (ℕ × ℕ)) (i z n : ℕ) → ((b : ℕ × ℕ) → In b bs → (b.0 ≤ D) × Bucket L b.0 b.1) → i < z → Falls L D i n → Tiles D bs i z
    → (rest : List (ℕ × ℕ)) × (bs ≡ (n, pre D i n) ∷ rest) × Tiles D rest (i + 2 ^ (D - n)) z
walk_next L D [] i z n all h f t = absurd (omega arith)
walk_next L D (b ∷ bs) i z n all h f t =
    let at : pre D i b.0 ≡ b.1 = ap (λ v. pre D v b.0) (sym t.0) ∙ pre_filled D b.1 b.0 in
    let e : b.0 ≡ n = falls_once L D i b.0 n (bucket_falls L D i b.0 (all b (inl refl)).0 (subst (λ v. Bucket L b.0 v) (sym at) (all b (inl refl)).1)) f in
    let y : b.1 ≡ pre D i n = sym at ∙ ap (pre D i) e in
    (bs, ap (λ v. v ∷ bs) (ap₂ (λ (u v : ℕ). (u, v)) e y), subst (λ v. Tiles D bs (i + 2 ^ (D - v)) z) e t.1)

-- at the end none is left
pub walk_done : (D : ℕ) (bs : List (ℕ × ℕ)) (i z : ℕ) → Tiles D bs i z → z ≤ i → length bs ≡ 0
walk_done D [] i z t h = refl
walk_done D (b ∷ bs) i z t h = absurd (omega (arith, walk_ends D bs (i + 2 ^ (D - b.0)) z t.1, pow_pos (D - b.0)))

-- a turn of the walk, for a loop that holds the buckets that are left
pub walk_turn : (L : Loads) (D : ℕ) (bs : List (ℕ × ℕ)) (i z n c : ℕ) → ((b : ℕ × ℕ) → In b bs → (b.0 ≤ D) × Bucket L b.0 b.1) → i < z → Falls L D i n → Tiles D bs i z
    → (rest : List (ℕ × ℕ)) × (c + 1 + length rest ≡ c + length bs) × Tiles D rest (i + 2 ^ (D - n)) z × ((b : ℕ × ℕ) → In b rest → (b.0 ≤ D) × Bucket L b.0 b.1)
walk_turn L D bs i z n c all h f t =
    let r = walk_next L D bs i z n all h f t in
    (r.0, omega (arith, ap length r.1), r.2, λ b j. all b (subst (In b) (sym r.1) (inr j)))
