-- The listed buckets: all, each once; and how their number changes.
use Rattle.std.proofs.Common.{◌≡◌, ℕ, zero, suc, ◌+◌, ◌*◌, ◌/◌, ◌^◌, ◌<◌, ◌≤◌, ◌⊎◌, List, [], ◌∷◌, ◌++◌, length, sym, refl, ap, ◌∙◌, subst, ap₂, inl, inr, ⊎_elim, arith, length-append}
use Rattle.std.proofs.lemmas.Bool.{cases_lt, le-leb, lt-leb}
use Rattle.tree.specs.Members.{In, Once}
use Rattle.tree.specs.Prefix.{pre, sib}
use Rattle.tree.specs.Loads.{Loads, Splits}
use Rattle.tree.specs.Trees.{Bucket, Falls, tree, buckets, number, longest, room}
use Rattle.tree.proofs.Sets.{in_left, in_right, in_append, once_append}
use Rattle.tree.proofs.Prefixes.{pre_step, pre_up, pre_self, pre_root}
use Rattle.tree.proofs.Loading.{path_mono, path_sib, halves}
use Rattle.tree.proofs.Growth.{Grows, sib_other, grown_longer}

-- ---- the clauses of `tree`

pub tree_leaf : (L : Loads) (d n p : ℕ) → L n p ≤ room → tree L d n p ≡ (n, p) ∷ []
unfolding tree
tree_leaf L zero n p h = rw (le-leb (L n p) room h, tree)
tree_leaf L (suc d) n p h = rw (le-leb (L n p) room h, tree)

tree_none : (L : Loads) (n p : ℕ) → room < L n p → tree L 0 n p ≡ []
unfolding tree
tree_none L n p h = rw (lt-leb (L n p) room h, tree)

pub tree_node : (L : Loads) (d n p : ℕ) → room < L n p → tree L (suc d) n p ≡ tree L d (suc n) (2 * p) ++ tree L d (suc n) (2 * p + 1)
unfolding tree
tree_node L d n p h = rw (lt-leb (L n p) room h, tree)

-- ---- what is listed lies at or below the prefix, as far down as asked

abbrev Under : ℕ → ℕ → ℕ → ℕ × ℕ → Type 0
Under d k q b = (k ≤ b.0) × (b.0 ≤ k + d) × (pre b.0 b.1 k ≡ q)

under_child : (d k q c : ℕ) (b : ℕ × ℕ) → c / 2 ≡ q → Under d (suc k) c b → Under (suc d) k q b
under_child d k q c b e u =
    (omega (arith, u.0), omega (arith, u.1), pre_step b.0 b.1 k u.0 ∙ ap (λ v. v / 2) u.2 ∙ e)

-- a listed bucket is the prefix itself, or is listed below one of the two that are one bit longer
in_zero : (L : Loads) (k q : ℕ) (b : ℕ × ℕ) → In b (tree L 0 k q) → (L k q ≤ room) × ((k, q) ≡ b)
in_zero L k q b i =
    ⊎_elim (λ h. let j : In b [] = subst (In b) (tree_none L k q h) i in absurd j)
    (λ h. let j : In b ((k, q) ∷ []) = subst (In b) (tree_leaf L 0 k q h) i in (h, ⊎_elim (λ e. e) (λ z. absurd z) j)) (cases_lt room (L k q))

in_suc : (L : Loads) (d k q : ℕ) (b : ℕ × ℕ) → In b (tree L (suc d) k q)
    → ((L k q ≤ room) × ((k, q) ≡ b)) ⊎ ((room < L k q) × ((c : ℕ) × (c / 2 ≡ q) × In b (tree L d (suc k) c)))
in_suc L d k q b i =
    ⊎_elim
    (λ h. let j : In b (tree L d (suc k) (2 * q) ++ tree L d (suc k) (2 * q + 1)) = subst (In b) (tree_node L d k q h) i in
    inr (h, ⊎_elim (λ l. (2 * q, omega arith, l)) (λ r. (2 * q + 1, omega arith, r)) (in_append b (tree L d (suc k) (2 * q)) (tree L d (suc k) (2 * q + 1)) j)))
    (λ h. let j : In b ((k, q) ∷ []) = subst (In b) (tree_leaf L (suc d) k q h) i in inl (h, ⊎_elim (λ e. e) (λ z. absurd z) j)) (cases_lt room (L k q))

tree_under : (L : Loads) (d k q : ℕ) (b : ℕ × ℕ) → In b (tree L d k q) → Under d k q b
tree_under L zero k q b i = subst (Under 0 k q) (in_zero L k q b i).1 (omega arith, omega arith, pre_self k q)
tree_under L (suc d) k q b i =
    ⊎_elim (λ r. subst (Under (suc d) k q) r.1 (omega arith, omega arith, pre_self k q))
    (λ r. under_child d k q r.1.0 b r.1.1 (tree_under L d (suc k) r.1.0 b r.1.2)) (in_suc L d k q b i)

-- ---- each listed prefix is a bucket, where every prefix above exceeds room

abbrev Above : Loads → ℕ → ℕ → Type 0
Above L k q = (j : ℕ) → j < k → room < L j (pre k q j)

above_child : (L : Loads) (k q c : ℕ) → c / 2 ≡ q → room < L k q → Above L k q → Above L (suc k) c
above_child L k q c e h a j l =
    let up : pre (suc k) c j ≡ pre k q j = pre_up k c j (omega arith) ∙ ap (λ v. pre k v j) e in
    ⊎_elim (λ (lt : j < k). omega (arith, a j lt, ap (L j) up))
    (λ (ge : k ≤ j). let z : j ≡ k = omega arith in omega (arith, h, ap (L j) up, ap₂ L z (ap (pre k q) z ∙ pre_self k q))) (cases_lt j k)

tree_bucket : (L : Loads) (d k q : ℕ) → Above L k q → (b : ℕ × ℕ) → In b (tree L d k q) → Bucket L b.0 b.1
tree_bucket L zero k q a b i = subst (λ v. Bucket L v.0 v.1) (in_zero L k q b i).1 ((in_zero L k q b i).0, a)
tree_bucket L (suc d) k q a b i =
    ⊎_elim (λ r. subst (λ v. Bucket L v.0 v.1) r.1 (r.0, a))
    (λ r. tree_bucket L d (suc k) r.1.0 (above_child L k q r.1.0 r.1.1 r.0 a) b r.1.2) (in_suc L d k q b i)

-- ---- each bucket is listed

here : (L : Loads) (d k q n p : ℕ) → L k q ≤ room → Bucket L n p → k ≤ n → pre n p k ≡ q → In (n, p) (tree L d k q)
here L d k q n p h b low e =
    ⊎_elim (λ (lt : k < n). absurd (omega (arith, b.1 k lt, ap (L k) e)))
    (λ (ge : n ≤ k).
    let z : k ≡ n = omega arith in
    let y : q ≡ p = sym e ∙ ap (pre n p) z ∙ pre_self n p in
    subst (In (n, p)) (sym (tree_leaf L d k q h)) (inl (ap₂ (λ (u v : ℕ). (u, v)) z y))) (cases_lt k n)

below : (L : Loads) (k q n p : ℕ) → room < L k q → Bucket L n p → k ≤ n → pre n p k ≡ q → k < n
below L k q n p h b low e =
    ⊎_elim (λ lt. lt) (λ (ge : n ≤ k). let z : k ≡ n = omega arith in absurd (omega (arith, b.0, h, ap (L k) e, ap₂ L z (ap (pre n p) z ∙ pre_self n p)))) (cases_lt k n)

tree_all : (L : Loads) (d k q n p : ℕ) → Bucket L n p → k ≤ n → n ≤ k + d → pre n p k ≡ q → In (n, p) (tree L d k q)
tree_all L zero k q n p b low high e =
    ⊎_elim (λ h. absurd (omega (arith, below L k q n p h b low e))) (λ h. here L 0 k q n p h b low e) (cases_lt room (L k q))
tree_all L (suc d) k q n p b low high e =
    ⊎_elim
    (λ h.
    let lt : k < n = below L k q n p h b low e in
    let up : pre n p (suc k) / 2 ≡ q = sym (pre_step n p k lt) ∙ e in
    let i : In (n, p) (tree L d (suc k) (pre n p (suc k))) = tree_all L d (suc k) (pre n p (suc k)) n p b lt (omega arith) refl in
    subst (In (n, p)) (sym (tree_node L d k q h))
    (⊎_elim (λ r. let z : pre n p (suc k) ≡ 2 * q = omega (arith, r.0) in in_left (n, p) (tree L d (suc k) (2 * q)) (tree L d (suc k) (2 * q + 1)) (subst (λ v. In (n, p) (tree L d (suc k) v)) z i))
    (λ r. let z : pre n p (suc k) ≡ 2 * q + 1 = omega (arith, r.0) in in_right (n, p) (tree L d (suc k) (2 * q)) (tree L d (suc k) (2 * q + 1)) (subst (λ v. In (n, p) (tree L d (suc k) v)) z i))
    (halves (pre n p (suc k)))))
    (λ h. here L (suc d) k q n p h b low e) (cases_lt room (L k q))

-- ---- and once

tree_once : (L : Loads) (d k q : ℕ) → Once (tree L d k q)
tree_once L zero k q =
    ⊎_elim (λ h. subst Once (sym (tree_none L k q h)) tt) (λ h. subst Once (sym (tree_leaf L 0 k q h)) ((λ z. z), tt)) (cases_lt room (L k q))
tree_once L (suc d) k q =
    ⊎_elim
    (λ h. subst Once (sym (tree_node L d k q h))
    (once_append (tree L d (suc k) (2 * q)) (tree L d (suc k) (2 * q + 1)) (tree_once L d (suc k) (2 * q)) (tree_once L d (suc k) (2 * q + 1))
    (λ b i j. omega (arith, (tree_under L d (suc k) (2 * q) b i).2, (tree_under L d (suc k) (2 * q + 1) b j).2))))
    (λ h. subst Once (sym (tree_leaf L (suc d) k q h)) ((λ z. z), tt)) (cases_lt room (L k q))

-- ---- the whole tree

pub listed_bucket : (L : Loads) (b : ℕ × ℕ) → In b (buckets L) → (b.0 ≤ 8) × (pre b.0 b.1 0 ≡ 0) × Bucket L b.0 b.1
listed_bucket L b i = (omega (arith, (tree_under L 8 0 0 b i).1), (tree_under L 8 0 0 b i).2, tree_bucket L 8 0 0 (λ j l. absurd (omega arith)) b i)

pub bucket_listed : (L : Loads) (n p : ℕ) → n ≤ 8 → p < 2 ^ n → Bucket L n p → In (n, p) (buckets L)
bucket_listed L n p h l b = tree_all L 8 0 0 n p b (omega arith) (omega arith) (pre_root n p l)

pub buckets_once : (L : Loads) → Once (buckets L)
buckets_once L = tree_once L 8 0 0

-- ---- depth

pub longest_le : (bs : List (ℕ × ℕ)) (b : ℕ × ℕ) → In b bs → b.0 ≤ longest bs
unfolding longest
longest_le [] b i = absurd i
longest_le (c ∷ bs) b (inl e) = omega (arith, ap (λ (v : ℕ × ℕ). v.0) e)
longest_le (c ∷ bs) b (inr i) = omega (arith, longest_le bs b i)

pub longest_at : (bs : List (ℕ × ℕ)) → 0 < longest bs → (b : ℕ × ℕ) × In b bs × (b.0 ≡ longest bs)
unfolding longest
longest_at [] h = absurd (omega arith)
longest_at (c ∷ bs) h =
    ⊎_elim (λ (lt : c.0 < longest bs). let r : (b : ℕ × ℕ) × In b bs × (b.0 ≡ longest bs) = longest_at bs (omega arith) in (r.0, inr r.1, omega (arith, r.2)))
    (λ (ge : longest bs ≤ c.0). (c, inl refl, omega arith)) (cases_lt c.0 (longest bs))

-- ---- how the number of buckets changes

node_length : (L : Loads) (d n q : ℕ) → room < L n (q / 2) → length (tree L (suc d) n (q / 2)) ≡ length (tree L d (suc n) q) + length (tree L d (suc n) (sib q))
node_length L d n q h =
    ⊎_elim (λ e. omega (
      arith,
      ap length (tree_node L d n (q / 2) h),
      length-append (tree L d (suc n) (2 * (q / 2))) (tree L d (suc n) (2 * (q / 2) + 1)),
      ap (λ v. length (tree L d (suc n) v)) e.0,
      ap (λ v. length (tree L d (suc n) v)) e.1,
    ))
    (λ e. omega (
      arith,
      ap length (tree_node L d n (q / 2) h),
      length-append (tree L d (suc n) (2 * (q / 2))) (tree L d (suc n) (2 * (q / 2) + 1)),
      ap (λ v. length (tree L d (suc n) v)) e.0,
      ap (λ v. length (tree L d (suc n) v)) e.1,
    )) (halves q)

path_length : (L : Loads) (h d n : ℕ) → n < 32 → room < L n (pre 32 h n)
    → length (tree L (suc d) n (pre 32 h n)) ≡ length (tree L d (suc n) (pre 32 h (suc n))) + length (tree L d (suc n) (sib (pre 32 h (suc n))))
path_length L h d n l k =
    let e : pre 32 h n ≡ pre 32 h (suc n) / 2 = pre_step 32 h n l in
    omega (arith, node_length L d n (pre 32 h (suc n)) (omega (arith, ap (L n) e)), ap (λ v. length (tree L (suc d) n v)) e)

-- a part of the tree that h does not begin with is as it was
tree_off : (h : ℕ) (L L' : Loads) → Grows h L L' → (d n p : ℕ) → n + d ≤ 32 → (p ≡ pre 32 h n → ⊥) → tree L' d n p ≡ tree L d n p
tree_off h L L' g zero n p w e =
    let o : L' n p ≡ L n p = g.off n p e in
    ⊎_elim (λ k. tree_none L' n p (omega arith) ∙ sym (tree_none L n p k)) (λ k. tree_leaf L' 0 n p (omega arith) ∙ sym (tree_leaf L 0 n p k)) (cases_lt room (L n p))
tree_off h L L' g (suc d) n p w e =
    let o : L' n p ≡ L n p = g.off n p e in
    let up : pre 32 h n ≡ pre 32 h (suc n) / 2 = pre_step 32 h n (omega arith) in
    ⊎_elim
    (λ k. tree_node L' d n p (omega arith)
    ∙ ap₂ ◌++◌ (tree_off h L L' g d (suc n) (2 * p) (omega arith) (λ z. e (omega arith))) (tree_off h L L' g d (suc n) (2 * p + 1) (omega arith) (λ z. e (omega arith)))
    ∙ sym (tree_node L d n p k))
    (λ k. tree_leaf L' (suc d) n p (omega arith) ∙ sym (tree_leaf L (suc d) n p k)) (cases_lt room (L n p))

module _ (h : ℕ) (L L' : Loads) (s : Splits L) (s' : Splits L') (g : Grows h L L') (l m : ℕ) (a : Falls L 32 h l) (b : Falls L' 32 h m) where
  -- below the old bucket: one for each bit further, and one
  chain : (d n : ℕ) → l ≤ n → n ≤ m → m ≤ n + d → n + d ≤ 32 → length (tree L' d n (pre 32 h n)) + n ≡ suc m
  chain zero n low high deep w = let z : n ≡ m = omega arith in omega (arith, ap length (tree_leaf L' 0 n (pre 32 h n) (rw z b.0)))
  chain (suc d) n low high deep w =
      ⊎_elim
      (λ (lt : n < m).
      omega (
        arith,
        path_length L' h d n (omega arith) (b.1 n lt),
        chain d (suc n) (omega arith) lt (omega arith) (omega arith),
        ap length (tree_leaf L' d (suc n) (sib (pre 32 h (suc n)))
            (omega (
              arith,
              g.off (suc n) (sib (pre 32 h (suc n))) (sib_other (pre 32 h (suc n))),
              path_sib L s 32 h n (omega arith) (omega arith),
              path_mono L s 32 h n l low (omega arith) (omega arith),
              a.0,
            ))),
      ))
      (λ (ge : m ≤ n). let z : n ≡ m = omega arith in omega (arith, ap length (tree_leaf L' (suc d) n (pre 32 h n) (rw z b.0)))) (cases_lt n m)

  grown_count : (d n : ℕ) → n ≤ l → l ≤ m → m ≤ n + d → n + d ≤ 32 → length (tree L' d n (pre 32 h n)) + l ≡ length (tree L d n (pre 32 h n)) + m
  grown_count zero n low high deep w =
      let z : n ≡ l = omega arith in
      omega (arith, chain 0 n (omega arith) (omega arith) deep w, ap length (tree_leaf L 0 n (pre 32 h n) (rw z a.0)))
  grown_count (suc d) n low high deep w =
      ⊎_elim
      (λ (lt : n < l).
      omega (
        arith,
        path_length L' h d n (omega arith) (b.1 n (omega arith)),
        path_length L h d n (omega arith) (a.1 n lt),
        grown_count d (suc n) lt high (omega arith) (omega arith),
        ap length (tree_off h L L' g d (suc n) (sib (pre 32 h (suc n))) (omega arith) (sib_other (pre 32 h (suc n)))),
      ))
      (λ (ge : l ≤ n).
      let z : n ≡ l = omega arith in
      omega (arith, chain (suc d) n (omega arith) (omega arith) deep w, ap length (tree_leaf L (suc d) n (pre 32 h n) (rw z a.0)))) (cases_lt n l)

  -- as many buckets more as h's bucket has bits more
  pub grown_number : h < 2 ^ 32 → m ≤ 8 → number L' + l ≡ number L + m
  grown_number k short =
      let z : pre 32 h 0 ≡ 0 = pre_root 32 h k in
      let c : length (tree L' 8 0 (pre 32 h 0)) + l ≡ length (tree L 8 0 (pre 32 h 0)) + m
      = grown_count 8 0 (omega arith) (grown_longer h L L' s s' g l m a b) (omega arith) (omega arith) in
      subst (λ v. length (tree L' 8 0 v) + l ≡ length (tree L 8 0 v) + m) z c
