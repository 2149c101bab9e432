-- What a change leaves in the buckets of its key.
use Rattle.std.proofs.Common.{◌≡◌, ℕ, zero, suc, ◌+◌, ◌<◌, ◌≤◌, true, false, not, eqb, List, ◌++◌, Some, sum_by, sym, refl, ap, ◌∙◌, subst, inl, inr, ⊎_elim, arith, lit≤}
use Rattle.std.specs.List.{AllByRecursion}
use Rattle.std.proofs.ByRecursion.{all_kept_by, All-append, All-weaker}
use Rattle.std.proofs.lemmas.List.Sums.{sum_by-append}
use Rattle.std.proofs.lemmas.Bool.{eq-eqb, eqb-true, and_parts, and_from, not-true, not_from_false, cases_Bool, both_ways}
use Rattle.keys.specs.Rule.{Rule, Lawful}
use Rattle.tree.specs.Prefix.{pre, sib}
use Rattle.tree.specs.Members.{In}
use Rattle.tree.specs.Maps.{Rec, size, Sound, Change, Put, Delete, key_of, added, new_of, made}
use Rattle.tree.specs.Loads.{hashed, loads}
use Rattle.tree.specs.Trees.{Falls}
use Rattle.tree.specs.Images.{Begun}
use Rattle.tree.proofs.Prefixes.{pre_pre, pre_step, pre_up, pre_below}
use Rattle.tree.proofs.Growth.{sib_other, sib_parent, sib_only}
use Rattle.tree.proofs.Sets.{in_left, in_right, in_append}
use Rattle.tree.proofs.Mapping.{in_kept, kept_in, all_of, apart_kept}
use Rattle.tree.proofs.Changes.{in_made, made_new, made_old, new_key, made_sound}
use Rattle.tree.proofs.Stands.{tells, stops}
use Rattle.pages.specs.Records.{Fine}
use Rattle.pages.proofs.Readings.{fine_valid, apart_append}
use Rattle.bucket.specs.Sifts.{stays, sift, sifted, own_load, FirstRoom}
use Rattle.bucket.specs.Laws.{hash_of, Before, OwnFound, SiblingLeft, OwnLeft, StillApart, StillFine, EntrySplit, TargetFalls}

-- the sibling of the first j + 1 bits of a number begins with its first l bits
pub sibling_begins : (w x j l : ℕ) → l ≤ j → j < w → pre (suc j) (sib (pre w x (suc j))) l ≡ pre w x l
sibling_begins w x j l h k =
    pre_up j (sib (pre w x (suc j))) l h ∙ ap (λ q. pre j q l) (sib_parent (pre w x (suc j)) ∙ sym (pre_step w x j k)) ∙ pre_pre w x j l h (omega arith)

-- ---- what stays

module _ (R : Rule) where
  in_sift : (k : List ℕ) (n p : ℕ) (rs : List Rec) (x : Rec) → In x (sift R k n p rs) → In x rs × (pre 32 (hashed R x) n ≡ p) × (R.same k x.key ≡ false)
  in_sift k n p rs x i =
      let a = in_kept (stays R k n p) x rs i in
      let b = and_parts (eqb (pre 32 (hashed R x) n) p) (not (R.same k x.key)) a.1 in
      (a.0, eqb-true (pre 32 (hashed R x) n) p b.0, not-true (R.same k x.key) b.1)

  sift_in : (k : List ℕ) (n p : ℕ) (rs : List Rec) (x : Rec) → In x rs → pre 32 (hashed R x) n ≡ p → R.same k x.key ≡ false → In x (sift R k n p rs)
  sift_in k n p rs x i e f =
      kept_in (stays R k n p) x rs i (and_from (eqb (pre 32 (hashed R x) n) p) (not (R.same k x.key)) (eq-eqb (pre 32 (hashed R x) n) p e) (not_from_false (R.same k x.key) f))

  -- what holds of each record holds of each that stays
  pub sift_all : (P : Rec → Type 0) (k : List ℕ) (n p : ℕ) (rs : List Rec) → AllByRecursion P rs → AllByRecursion P (sift R k n p rs)
  sift_all P k n p rs a = all_kept_by (stays R k n p) P rs a

  pub sift_sound : (k : List ℕ) (n p : ℕ) (rs : List Rec) → Sound R rs → Sound R (sift R k n p rs)
  sift_sound k n p rs s = record { valid = sift_all _ k n p rs s.valid; apart = apart_kept R (stays R k n p) rs s.apart }

  pub still_fine : StillFine R
  still_fine c rs n p a =
      let s = sift_all (Fine R.valid) (key_of c) n p rs a in
      (s, λ b. All-append (Fine R.valid) (sift R (key_of c) n p rs) (new_of c) s b)

  new_sound : (c : Change) → R.valid (key_of c) ≡ true → Sound R (new_of c)
  new_sound (Put r) v = record { valid = (v, tt); apart = (tt, tt) }
  new_sound (Delete k) v = record { valid = tt; apart = tt }

  pub new_bytes : (c : Change) → sum_by size (new_of c) ≡ added c
  new_bytes (Put r) = omega arith
  new_bytes (Delete k) = refl

  module _ (c : Change) (m rs : List Rec) (l : ℕ) (b : Before R c m l rs) where
    -- a record of the changed map that begins with the old bucket's bits is new, or stood there
    old_there : (n p : ℕ) → l ≤ n → n ≤ 32 → pre n p l ≡ pre 32 (hash_of R c) l → (x : Rec) → In x m → R.same (key_of c) x.key ≡ false → pre 32 (hashed R x) n ≡ p → In x (sift R (key_of c) n p rs)
    old_there n p h k e x i f z =
        sift_in (key_of c) n p rs x ((b.begun x).1 i (sym (pre_pre 32 (hashed R x) n l h k) ∙ ap (λ q. pre n q l) z ∙ e)) z f

    stays_there : (n p : ℕ) (x : Rec) → In x (sift R (key_of c) n p rs) → In x (made R c m) × (pre 32 (hashed R x) n ≡ p)
    stays_there n p x i =
        let a = in_sift (key_of c) n p rs x i in
        (made_old R c m x ((b.begun x).0 a.0).0 a.2, a.1)

    pub sibling_begun : (n p : ℕ) → l ≤ n → n ≤ 32 → pre n p l ≡ pre 32 (hash_of R c) l → (p ≡ pre 32 (hash_of R c) n → ⊥) → Begun (hashed R) (made R c m) n p (sift R (key_of c) n p rs)
    sibling_begun n p h k e ne x = (
      stays_there n p x,
      λ i z. ⊎_elim (λ j. absurd (ne (sym z ∙ ap (λ q. pre 32 (R.hash q) n) (new_key R c x j)))) (λ o. old_there n p h k e x o.0 o.1 z) (in_made R c m x i),
    )

    pub own_begun : (n : ℕ) → l ≤ n → n ≤ 32 → Begun (hashed R) (made R c m) n (pre 32 (hash_of R c) n) (sift R (key_of c) n (pre 32 (hash_of R c) n) rs ++ new_of c)
    own_begun n h k x = (
      (λ i. ⊎_elim (λ j. stays_there n (pre 32 (hash_of R c) n) x j) (λ j. (made_new R c m x j, ap (λ q. pre 32 (R.hash q) n) (new_key R c x j)))
          (in_append x (sift R (key_of c) n (pre 32 (hash_of R c) n) rs) (new_of c) i)),
      λ i z. ⊎_elim (λ j. in_right x (sift R (key_of c) n (pre 32 (hash_of R c) n) rs) (new_of c) j)
          (λ o. in_left x (sift R (key_of c) n (pre 32 (hash_of R c) n) rs) (new_of c)
          (old_there n (pre 32 (hash_of R c) n) h k (pre_pre 32 (hash_of R c) n l h k) x o.0 o.1 z)) (in_made R c m x i),
    )

  module _ (law : Lawful R) where
    pub still_apart : StillApart R
    still_apart c m rs l n p b =
        let s = sift_sound (key_of c) n p rs b.own in
        let t = new_sound c b.valid in (
          s,
          record {
            valid = All-append _ (sift R (key_of c) n p rs) (new_of c) s.valid t.valid;
            apart = apart_append R (sift R (key_of c) n p rs) (new_of c) s.apart t.apart (λ x y i j.
                let a = in_sift (key_of c) n p rs x i in
                let v = all_of (λ r. R.valid r.key ≡ true) x rs b.own.valid a.0 in
                ap (R.same x.key) (new_key R c y j)
                ∙ ⊎_elim (λ u. absurd (both_ways (R.same (key_of c) x.key) a.2 (law.symmetric x.key (key_of c) v b.valid u))) (λ f. f) (cases_Bool (R.same x.key (key_of c))));
          },
        )

    pub sibling_left : SiblingLeft R
    sibling_left c m rs l n p b h k e ne =
        let g = sibling_begun c m rs l b n p h k e ne in
        (g, (tells R law (made R c m) (sift R (key_of c) n p rs) n p (made_sound R c m b.valid b.map) (still_apart c m rs l n p b).0 k g).0)

    pub own_left : OwnLeft R
    own_left c m rs l n b h k =
        let p = pre 32 (hash_of R c) n in
        let g = own_begun c m rs l b n h k in
        let t = (tells R law (made R c m) (sift R (key_of c) n p rs ++ new_of c) n p (made_sound R c m b.valid b.map) (still_apart c m rs l n p b).1 k g).0 in
        (g, t ∙ sum_by-append size (sift R (key_of c) n p rs) (new_of c) ∙ ap (λ u. sifted R (key_of c) n p rs + u) (new_bytes c))

    pub own_found : OwnFound R
    own_found c x E d recs m v k f =
        let i = pre 32 (hash_of R c) x.depth in
        let h = pre_below 32 (hash_of R c) x.depth k (law.bits (key_of c)) in
        record {
          valid = v;
          map = f.map;
          own = record { valid = All-weaker (Fine R.valid) (λ r. R.valid r.key ≡ true) (fine_valid R.valid) (recs i) (f.fine i h); apart = f.apart i h };
          begun = subst (λ q. Begun (hashed R) m (d i) q (recs i)) (pre_pre 32 (hash_of R c) x.depth (d i) (f.holds.short i h) k) (f.holds.has i h);
        }

    pub entry_split : EntrySplit R
    entry_split c m rs l n w d d' recs recs' i b h k narrow =
        ⊎_elim (λ r. inl r)
        (⊎_elim
        (λ r. let j = r.0 in
        let e : pre w i (suc j) ≡ sib (pre 32 (hash_of R c) (suc j)) =
        sib_only (pre w i (suc j)) (pre 32 (hash_of R c) (suc j)) (sym (pre_step w i j (omega (arith, r.2))) ∙ r.3 ∙ pre_step 32 (hash_of R c) j (omega (arith, r.2))) r.4 in
        let g = sibling_begun c m rs l b (suc j) (sib (pre 32 (hash_of R c) (suc j))) (omega (arith, r.1)) (omega (arith, r.2))
        (sibling_begins 32 (hash_of R c) j l r.1 (omega (arith, r.2))) (sib_other (pre 32 (hash_of R c) (suc j))) in
        inr (inl (j, r.1, r.2, r.3, r.4, r.5, begun_as (suc j) _ _ _ _ (sym e) (sym r.6) g)))
        (λ r. inr (inr (r.0, r.1, begun_as n _ _ _ _ (sym r.0) (sym r.2) (own_begun c m rs l b n h (omega arith))))))
      where
        begun_as : (a p p' : ℕ) (xs xs' : List Rec) → p ≡ p' → xs ≡ xs' → Begun (hashed R) (made R c m) a p xs → Begun (hashed R) (made R c m) a p' xs'
        begun_as a p p' xs xs' e f g = subst (λ q. Begun (hashed R) (made R c m) a q xs') e (subst (λ (ys : List Rec). Begun (hashed R) (made R c m) a p ys) f g)

    falls_there : (c : Change) (m rs : List Rec) (l : ℕ) → Before R c m l rs → (n : ℕ) → l < n → FirstRoom (own_load R (key_of c) (hash_of R c) (added c) rs) l (Some n) → Falls (loads R (made R c m)) 32 (hash_of R c) n
    falls_there c m rs l b zero h f = absurd (omega arith)
    falls_there c m rs l b (suc n) h f =
        (stops R (made R c m) (hash_of R c)).1 n (omega (arith, f.1)) (omega (arith, f.2, (own_left c m rs l (suc n) b (omega arith) (omega (arith, f.1))).1))
        (omega (arith, f.3 n (omega arith) (omega arith), (own_left c m rs l n b (omega arith) (omega (arith, f.1))).1))

    pub target_falls : TargetFalls R
    target_falls c m rs l b = (
      falls_there c m rs l b,
      λ h none. omega (arith, none 8 h (lit≤ tt), (own_left c m rs l 8 b h (lit≤ tt)).1),
    )
