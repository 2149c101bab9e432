-- What entries of a directory fall into, and what a change does to them.
use Rattle.std.proofs.Common.{◌≡◌, ℕ, suc, ◌+◌, ◌-◌, ◌*◌, ◌^◌, ◌<◌, ◌≤◌, true, not, eqb, List, [], ◌∷◌, filter, sym, ap, ◌∙◌, subst, ⊎_elim, arith, lit≤}
use Rattle.std.specs.List.{AllByRecursion}
use Rattle.std.proofs.lemmas.Bool.{cases_lt, cases_eq, eqb-false, not-true}
use Rattle.std.proofs.ByRecursion.{kept_by_passes}
use Rattle.tree.specs.Prefix.{pre, sib}
use Rattle.tree.specs.Loads.{Loads, load, Splits}
use Rattle.tree.specs.Trees.{Falls, Roomy, room, buckets, longest, depth}
use Rattle.tree.proofs.Prefixes.{pre_below, pre_filled, pre_step, pre_pre, pre_across, first_below}
use Rattle.tree.proofs.Loading.{path_mono, path_sib}
use Rattle.tree.proofs.Partition.{falls_once, falls_bucket, has_bucket}
use Rattle.tree.proofs.Listing.{listed_bucket, bucket_listed, longest_le, longest_at}
use Rattle.tree.proofs.Growth.{Grows, sib_only, sib_other, grown_sibling, grows_le}
use Rattle.tree.proofs.Mapping.{load_kept, load_none_in}

-- the first w bits of a number of v bits fall where it falls, if its bucket is no longer
pub wider_falls : (L : Loads) (w v i n : ℕ) → n ≤ w → w ≤ v → Falls L w (pre v i w) n → Falls L v i n
wider_falls L w v i n k l f =
    (omega (arith, f.0, ap (L n) (pre_pre v i w n k l)), λ j q. omega (arith, f.1 j q, ap (L j) (pre_pre v i w j (omega arith) l)))

pub narrower_falls : (L : Loads) (w v i n : ℕ) → n ≤ w → w ≤ v → Falls L v i n → Falls L w (pre v i w) n
narrower_falls L w v i n k l f =
    (omega (arith, f.0, ap (L n) (pre_pre v i w n k l)), λ j q. omega (arith, f.1 j q, ap (L j) (pre_pre v i w j (omega arith) l)))

-- the depth is at most eight, and every entry of the tree's own directory falls into one bucket
depth_le : (L : Loads) → depth L ≤ 8
depth_le L =
    ⊎_elim (λ (lt : 8 < longest (buckets L)). let r = longest_at (buckets L) (omega arith) in absurd (omega (arith, r.2, (listed_bucket L r.0 r.1).0))) (λ ge. ge)
    (cases_lt 8 (longest (buckets L)))

pub entry_named : (L : Loads) → Roomy L → (i : ℕ) → i < 2 ^ depth L → (n : ℕ) × (n ≤ depth L) × Falls L (depth L) i n × ((k : ℕ) → Falls L (depth L) i k → k ≡ n)
entry_named L r i h =
    let D = depth L in
    let x = i * 2 ^ (32 - D) in
    let deep = depth_le L in
    let small : x < 2 ^ 32 = first_below 32 D i (omega arith) h in
    let b = has_bucket L 32 x (r (pre 32 x 8) (pre_below 32 x 8 (lit≤ tt) small)) in
    let w : b.0 ≤ 32 = omega (arith, b.1) in
    let short = longest_le (buckets L) (b.0, pre 32 x b.0) (bucket_listed L b.0 (pre 32 x b.0) b.1 (pre_below 32 x b.0 w small) (falls_bucket L 32 x b.0 w b.2)) in
    let f = subst (λ v. Falls L D v b.0) (pre_filled 32 i D) (narrower_falls L D 32 x b.0 short (omega arith) b.2) in
    (b.0, short, f, λ k g. falls_once L D i k b.0 g f)

-- an entry that begins with the bucket of the hash h falls into it
pub entry_own : (L : Loads) (h n w i : ℕ) → n ≤ 32 → n ≤ w → Falls L 32 h n → pre w i n ≡ pre 32 h n → Falls L w i n
entry_own L h n w i short k b e =
    (omega (arith, b.0, ap (L n) e), λ j q. omega (arith, b.1 j q, ap (L j) (pre_across w i 32 h n j (omega arith) k short e)))

-- ---- the entries after the loads have grown along h, from the length l to m
module _ (h : ℕ) (L L' : Loads) (s : Splits L) (s' : Splits L') (g : Grows h L L') (l m : ℕ) (short : m ≤ 32) (a : Falls L 32 h l) (b : Falls L' 32 h m) (w i : ℕ) where
  -- an entry that does not begin with h's old bucket
  pub grown_entry_off : (n : ℕ) → n ≤ w → w ≤ 32 → (pre w i l ≡ pre 32 h l → ⊥) → Falls L w i n → Falls L' w i n
  grown_entry_off n k v e f =
      ⊎_elim
      (λ z. absurd (e (let y : n ≡ l = falls_once L 32 h n l (omega (arith, f.0, ap (L n) z), λ j q. omega (arith, f.1 j q, ap (L j) (up z j (omega arith)))) a in
      subst (λ j. pre w i j ≡ pre 32 h j) y z)))
      (λ z. (omega (arith, f.0, g.off n (pre w i n) z), λ j q. omega (arith, f.1 j q, grows_le h L L' s s' g j (pre w i j))))
      (cases_eq (pre w i n) (pre 32 h n))
    where
      up : pre w i n ≡ pre 32 h n → (j : ℕ) → j ≤ n → pre w i j ≡ pre 32 h j
      up z j q = pre_across w i 32 h n j q k (omega arith) z

  -- one that leaves h behind j bits, on the way: its bucket is the sibling there
  pub grown_entry_sibling : (j : ℕ) → l ≤ j → j < m → j < w → pre w i j ≡ pre 32 h j → (pre w i (suc j) ≡ pre 32 h (suc j) → ⊥) → Falls L' w i (suc j)
  grown_entry_sibling j low high k e ne =
      let z : pre w i (suc j) ≡ sib (pre 32 h (suc j)) = sib_only (pre w i (suc j)) (pre 32 h (suc j)) (sym (pre_step w i j k) ∙ e ∙ pre_step 32 h j (omega arith)) ne in (
        omega (arith, (grown_sibling h L L' s s' g l m short a b j low high).0, ap (L' (suc j)) z),
        λ q r. omega (arith, b.1 q (omega arith), ap (L' q) (pre_across w i 32 h j q (omega arith) (omega arith) (omega arith) e)),
      )

-- ---- the entries after the loads have shrunk along h, from L to L', where h's bucket has m bits then
module _ (h : ℕ) (L L' : Loads) (s : Splits L) (s' : Splits L') (g : Grows h L' L) (m : ℕ) (short : m ≤ 32) (b : Falls L' 32 h m) (w i : ℕ) where
  -- an entry that does not begin with h's bucket
  pub shrunk_entry_off : (n : ℕ) → n ≤ w → w ≤ 32 → (pre w i m ≡ pre 32 h m → ⊥) → Falls L w i n → Falls L' w i n
  shrunk_entry_off n k v e f = (
    omega (arith, f.0, grows_le h L' L s' s g n (pre w i n)),
    λ j q. ⊎_elim
        (λ (z : pre w i j ≡ pre 32 h j).
        ⊎_elim (λ (lt : j < m). omega (arith, b.1 j lt, ap (L' j) z))
        (λ (ge : m ≤ j). absurd (e (pre_across w i 32 h j m ge (omega arith) (omega arith) z))) (cases_lt j m))
        (λ z. omega (arith, f.1 j q, g.off j (pre w i j) z)) (cases_eq (pre w i j) (pre 32 h j)),
  )

-- ---- where a walk along h's path stops

-- h's bucket told by its own load and by that of one bit less
pub falls_from : (L : Loads) → Splits L → (h n : ℕ) → n < 32 → L (suc n) (pre 32 h (suc n)) ≤ room → room < L n (pre 32 h n) → Falls L 32 h (suc n)
falls_from L s h n k a b = (a, λ j l. omega (arith, path_mono L s 32 h n j (omega arith) (omega arith) (omega arith)))

pub falls_root : (L : Loads) (h : ℕ) → L 0 (pre 32 h 0) ≤ room → Falls L 32 h 0
falls_root L h a = (a, λ j l. absurd (omega arith))

-- L and L' differ along h's path alone, and the entry i stands beside it behind n bits
module _ (h : ℕ) (L L' : Loads) (s' : Splits L') (off : (n p : ℕ) → (p ≡ pre 32 h n → ⊥) → L' n p ≡ L n p) where
  module _ (w i n : ℕ) (in_w : n < w) (narrow : w ≤ 32) (beside : pre w i (suc n) ≡ sib (pre 32 h (suc n))) where
    pub load_up : L' n (pre 32 h n) ≡ L' (suc n) (pre 32 h (suc n)) + L (suc n) (pre w i (suc n))
    load_up =
        omega (arith, path_sib L' s' 32 h n (omega arith) (omega arith), off (suc n) (sib (pre 32 h (suc n))) (sib_other (pre 32 h (suc n))), ap (L (suc n)) beside)

    -- where i falls into a longer bucket, the load above exceeds 248
    pub heavy_up : (d : ℕ) → suc n < d → Falls L w i d → room < L' n (pre 32 h n)
    heavy_up d lt f = omega (arith, load_up, f.1 (suc n) lt)

  -- only h's first eight bits can have too great a load
  pub roomy_beside : Roomy L → L' 8 (pre 32 h 8) ≤ room → Roomy L'
  roomy_beside r k p l = ⊎_elim (λ e. rw e k) (λ e. omega (arith, off 8 p e, r p l)) (cases_eq p (pre 32 h 8))

-- the records of one bucket tell the loads of all prefixes below it
pub load_filtered : {X : Type 0} (hash weight : X → ℕ) (xs : List X) (l p k q : ℕ) → l ≤ k → k ≤ 32 → pre k q l ≡ p
    → load hash weight (filter (λ x. eqb (pre 32 (hash x) l) p) xs) k q ≡ load hash weight xs k q
load_filtered {X} hash weight xs l p k q low high e =
    omega (
      arith,
      load_kept hash weight (λ x. eqb (pre 32 (hash x) l) p) xs k q,
      load_none_in hash weight (filter (λ x. not (eqb (pre 32 (hash x) l) p)) xs) k q (others (filter (λ x. not (eqb (pre 32 (hash x) l) p)) xs) (kept_by_passes (λ x. not (eqb (pre 32 (hash x) l) p)) xs)),
    )
  where
    others : (ys : List X) → AllByRecursion (λ x. not (eqb (pre 32 (hash x) l) p) ≡ true) ys → AllByRecursion (λ x. pre 32 (hash x) k ≡ q → ⊥) ys
    others [] a = tt
    others (y ∷ ys) a =
        ((λ z. eqb-false (pre 32 (hash y) l) p (not-true (eqb (pre 32 (hash y) l) p) a.0) (sym (pre_pre 32 (hash y) k l low high) ∙ ap (λ v. pre k v l) z ∙ e)), others ys a.1)
