-- What a recover has to test: each page's bytes, and the bytes of each two siblings.
use Rattle.std.proofs.Common.{◌≡◌, ℕ, suc, ◌^◌, ◌<◌, ◌≤◌, ◌⊎◌, List, sum_by, refl, ap, ◌∙◌, subst, inl, inr, ⊎_elim, arith}
use Rattle.std.proofs.lemmas.Bool.{cases_lt}
use Rattle.tree.specs.Members.{In}
use Rattle.tree.specs.Prefix.{pre}
use Rattle.tree.specs.Loads.{Loads, load, Splits}
use Rattle.tree.specs.Trees.{Bucket, Falls, buckets, longest, depth}
use Rattle.tree.specs.Images.{image_map, Pages, BytesTested, Holds}
use Rattle.tree.proofs.Prefixes.{pre_self, pre_below, root_below}
use Rattle.tree.proofs.Loading.{load_splits, path_mono}
use Rattle.tree.proofs.Partition.{falls_once, falls_bucket, bucket_itself}
use Rattle.tree.proofs.Directory.{tested_falls, falls_tested}
use Rattle.tree.proofs.Listing.{listed_bucket, bucket_listed, longest_le, longest_at}
use Rattle.tree.proofs.Imaging.{page_load, image_has, image_in, apart}
use Rattle.tree.proofs.Mapping.{all_of}
use Rattle.tree.proofs.Visits.{Deep}

module _ {X : Type 0} (hash weight : X → ℕ) (w : ℕ) (narrow : w ≤ 32) (d : ℕ → ℕ) (recs : ℕ → List X) (pages : Pages hash w d recs) where
  bytes_at : (i n : ℕ) → i < 2 ^ w → d i ≡ n → load hash weight (image_map w d recs) n (pre w i n) ≡ sum_by weight (recs i)
  bytes_at i n h e = subst (λ v. load hash weight (image_map w d recs) v (pre w i v) ≡ sum_by weight (recs i)) e (page_load hash weight w narrow d recs pages i h)

  -- where it passes, each page is the bucket of the tree that its entries begin with
  pub bytes_tree : BytesTested weight w d recs → (i : ℕ) → i < 2 ^ w → Falls (load hash weight (image_map w d recs)) w i (d i)
  bytes_tree t =
      tested_falls (load hash weight (image_map w d recs)) (load_splits hash weight (image_map w d recs)) w narrow d pages.parts
      (record {
        fits = λ i h. omega (arith, t.fits i h, bytes_at i (d i) h refl);
        full = λ i j n h l z y e. omega (arith, t.full i j n h l z y e, bytes_at i (suc n) h z, bytes_at j (suc n) l y);
      })

  -- and where the pages are the tree's buckets, it passes
  pub tree_bytes : ((i : ℕ) → i < 2 ^ w → Falls (load hash weight (image_map w d recs)) w i (d i)) → BytesTested weight w d recs
  tree_bytes f =
      let t = falls_tested (load hash weight (image_map w d recs)) (load_splits hash weight (image_map w d recs)) w narrow d pages.parts f in
      record {
        fits = λ i h. omega (arith, t.fits i h, bytes_at i (d i) h refl);
        full = λ i j n h l z y e. omega (arith, t.full i j n h l z y e, bytes_at i (suc n) h z, bytes_at j (suc n) l y);
      }

  -- so the image holds the map that its pages make up
  pub pages_hold : BytesTested weight w d recs → Holds hash weight (image_map w d recs) w d recs
  pages_hold t =
      record {
        short = pages.parts.short;
        falls = bytes_tree t;
        has = λ i h x. (
          (λ a. (image_has hash weight w narrow d recs pages x i h a, all_of (λ y. pre 32 (hash y) (d i) ≡ pre w i (d i)) x (recs i) (pages.begin i h) a)),
          λ a e. let r = image_in hash weight w narrow d recs pages x a in
              subst (In x) (pages.shared i r.0 h r.1 (apart hash weight w narrow d recs pages i r.0 h r.1 x r.2 e)) r.2,
        );
      }

-- ---- the depth

module _ (L : Loads) (s : Splits L) (w : ℕ) (narrow : w ≤ 8) (d : ℕ → ℕ) (short : (i : ℕ) → i < 2 ^ w → d i ≤ w) (f : (i : ℕ) → i < 2 ^ w → Falls L w i (d i)) where
  pub directory_deep : Deep L w
  directory_deep p h = omega (arith, path_mono L s w p w (d p) (short p h) (omega arith) (omega arith), (f p h).0, ap (L w) (pre_self w p))

  pub no_longer : (b : ℕ × ℕ) → In b (buckets L) → b.0 ≤ w
  no_longer b i =
      let r = listed_bucket L b i in
      ⊎_elim
      (λ (lt : w < b.0).
      let small : b.1 < 2 ^ b.0 = root_below b.0 b.1 r.1 in
      absurd (omega (arith, r.2.1 w lt, directory_deep (pre b.0 b.1 w) (pre_below b.0 b.1 w (omega arith) small))))
      (λ ge. ge) (cases_lt w b.0)

  at_most : longest (buckets L) ≤ w
  at_most =
      ⊎_elim (λ (lt : w < longest (buckets L)). let r = longest_at (buckets L) (omega arith) in absurd (omega (arith, r.2, no_longer r.0 r.1))) (λ ge. ge) (cases_lt w (longest (buckets L)))

  -- the directory's width is the depth if some page has it
  pub depth_is : (w ≡ 0) ⊎ ((i : ℕ) × (i < 2 ^ w) × (d i ≡ w)) → depth L ≡ w
  depth_is (inl e) = omega (arith, at_most)
  depth_is (inr r) =
      let b : Bucket L (d r.0) (pre w r.0 (d r.0)) = falls_bucket L w r.0 (d r.0) (short r.0 r.1) (f r.0 r.1) in
      let i = bucket_listed L (d r.0) (pre w r.0 (d r.0)) (omega (arith, r.2)) (pre_below w r.0 (d r.0) (short r.0 r.1) r.1) b in
      omega (arith, at_most, longest_le (buckets L) (d r.0, pre w r.0 (d r.0)) i, r.2)

  -- and only then
  pub depth_attained : depth L ≡ w → (w ≡ 0) ⊎ ((b : ℕ × ℕ) × In b (buckets L) × (b.0 ≡ w))
  depth_attained e =
      ⊎_elim (λ (pos : 0 < w). let r = longest_at (buckets L) (omega arith) in inr (r.0, r.1, r.2 ∙ e)) (λ (z : w ≤ 0). inl (omega arith)) (cases_lt 0 w)

  pub depth_entry : depth L ≡ w → (w ≡ 0) ⊎ ((i : ℕ) × (i < 2 ^ w) × (d i ≡ w))
  depth_entry e = ⊎_elim inl (λ r. inr (at r.0.0 r.0.1 r.2 (listed_bucket L r.0 r.1))) (depth_attained e)
    where
      at : (n p : ℕ) → n ≡ w → (n ≤ 8) × (pre n p 0 ≡ 0) × Bucket L n p → (i : ℕ) × (i < 2 ^ w) × (d i ≡ w)
      at n p z b =
          let small : p < 2 ^ w = subst (λ v. p < 2 ^ v) z (root_below n p b.1) in
          (p, small, falls_once L w p (d p) w (f p small) (bucket_itself L w p (subst (λ v. Bucket L v p) z b.2)))
