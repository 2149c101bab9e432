-- A directory that holds a map, wider or narrower, and after the splits or the merges of a change.
use Rattle.std.proofs.Common.{◌≡◌, ℕ, suc, ◌-◌, ◌*◌, ◌^◌, ◌<◌, ◌≤◌, Bool, true, false, cond, eqb, List, [], ◌∷◌, sum_by, filter, sym, refl, ap, ◌∙◌, subst, inl, inr, ⊎_elim, arith}
use Rattle.std.proofs.lemmas.Bool.{cases_lt, eq-eqb, eqb-true}
use Rattle.keys.specs.Rule.{Rule, Lawful}
use Rattle.tree.specs.Maps.{Rec, size, Valid, Change, key_of, made}
use Rattle.tree.specs.Members.{In, Once}
use Rattle.tree.specs.Prefix.{pre}
use Rattle.tree.specs.Loads.{Loads, load, hashed, loads}
use Rattle.tree.specs.Trees.{Falls}
use Rattle.tree.specs.Images.{Begun, Holds, SplitEntry, MergedEntry}
use Rattle.tree.proofs.Prefixes.{pre_pre, pre_below, pre_across, pre_filled, pre_self, first_below}
use Rattle.tree.proofs.Loading.{load_splits}
use Rattle.tree.proofs.Partition.{falls_once}
use Rattle.tree.proofs.Growth.{Grows, grown_longer}
use Rattle.tree.proofs.Entries.{wider_falls, narrower_falls, entry_own, grown_entry_off, grown_entry_sibling, shrunk_entry_off, load_filtered}
use Rattle.tree.proofs.Changes.{made_grows, made_rest}
use Rattle.tree.proofs.Mapping.{load_same, load_all_in, in_kept, kept_in, all_in}

module _ {X : Type 0} (hash weight : X → ℕ) where
  begun_at : (m : List X) (n n' p p' : ℕ) (xs xs' : List X) → n ≡ n' → p ≡ p' → xs ≡ xs' → Begun hash m n p xs → Begun hash m n' p' xs'
  begun_at m n n' p p' xs xs' a b c g =
      subst (λ v. Begun hash m v p' xs') a (subst (λ v. Begun hash m n v xs') b (subst (λ v. Begun hash m n p v) c g))

  -- a record is in the map exactly if it is in the page that its hash leads to
  pub holds_find : (m : List X) (w : ℕ) (d : ℕ → ℕ) (recs : ℕ → List X) → Holds hash weight m w d recs → w ≤ 32 → (x : X) → hash x < 2 ^ 32
      → (In x m → In x (recs (pre 32 (hash x) w))) × (In x (recs (pre 32 (hash x) w)) → In x m)
  holds_find m w d recs o k x b =
      let h = pre_below 32 (hash x) w k b in
      let i = pre 32 (hash x) w in
      ((λ a. (o.has i h x).1 a (sym (pre_pre 32 (hash x) w (d i) (o.short i h) k))), λ a. ((o.has i h x).0 a).0)

  -- a wider directory: each entry leads where its first w bits led
  pub widen_holds : (m : List X) (w v : ℕ) (d : ℕ → ℕ) (recs : ℕ → List X) → w ≤ v → Holds hash weight m w d recs → Holds hash weight m v (λ i. d (pre v i w)) (λ i. recs (pre v i w))
  widen_holds m w v d recs k o =
      record {
        short = λ i h. let s = o.short (pre v i w) (pre_below v i w k h) in omega arith;
        falls = λ i h. let l = pre_below v i w k h in wider_falls (load hash weight m) w v i (d (pre v i w)) (o.short (pre v i w) l) k (o.falls (pre v i w) l);
        has = λ i h. let l = pre_below v i w k h in
            begun_at m (d (pre v i w)) (d (pre v i w)) _ _ _ _ refl (pre_pre v i w (d (pre v i w)) (o.short (pre v i w) l) k) refl (o.has (pre v i w) l);
      }

  -- a narrower one, where no page has more bits
  pub narrow_holds : (m : List X) (w v : ℕ) (d : ℕ → ℕ) (recs : ℕ → List X) → w ≤ v → Holds hash weight m v d recs → ((i : ℕ) → i < 2 ^ v → d i ≤ w)
      → Holds hash weight m w (λ i. d (i * 2 ^ (v - w))) (λ i. recs (i * 2 ^ (v - w)))
  narrow_holds m w v d recs k o s =
      record {
        short = λ i h. s (i * 2 ^ (v - w)) (first_below v w i k h);
        falls = λ i h. subst (λ u. Falls (load hash weight m) w u (d (i * 2 ^ (v - w)))) (pre_filled v i w)
            (narrower_falls (load hash weight m) w v (i * 2 ^ (v - w)) (d (i * 2 ^ (v - w))) (s (i * 2 ^ (v - w)) (first_below v w i k h)) k (o.falls (i * 2 ^ (v - w)) (first_below v w i k h)));
        has = λ i h. begun_at m (d (i * 2 ^ (v - w))) (d (i * 2 ^ (v - w))) _ _ _ _ refl
            (sym (pre_pre v (i * 2 ^ (v - w)) w (d (i * 2 ^ (v - w))) (s (i * 2 ^ (v - w)) (first_below v w i k h)) k) ∙ ap (λ u. pre w u (d (i * 2 ^ (v - w)))) (pre_filled v i w)) refl
            (o.has (i * 2 ^ (v - w)) (first_below v w i k h));
      }

  module _ (h : ℕ) (m m' : List X) (rest : (x : X) → (hash x ≡ h → ⊥) → (In x m → In x m') × (In x m' → In x m))
      (w : ℕ) (narrow : w ≤ 32) (d d' : ℕ → ℕ) (recs recs' : ℕ → List X) (o : Holds hash weight m w d recs) where
    -- a page that h does not begin with has the records that it had
    kept : (i : ℕ) → i < 2 ^ w → (pre 32 h (d i) ≡ pre w i (d i) → ⊥) → Begun hash m' (d i) (pre w i (d i)) (recs i)
    kept i l ne x = (
      (λ a. let r = (o.has i l x).0 a in ((rest x (λ e. ne (ap (λ v. pre 32 v (d i)) (sym e) ∙ r.1))).0 r.0, r.1)),
      λ a e. (o.has i l x).1 ((rest x (λ z. ne (ap (λ v. pre 32 v (d i)) (sym z) ∙ e))).1 a) e,
    )

    -- splits
    module _ (g : Grows h (load hash weight m) (load hash weight m')) (l n : ℕ) (short : n ≤ w) (a : Falls (load hash weight m) 32 h l) (b : Falls (load hash weight m') 32 h n) where
      -- a bucket that h begins with is h's own
      own_length : (i : ℕ) → i < 2 ^ w → pre 32 h (d i) ≡ pre w i (d i) → d i ≡ l
      own_length i k e =
          let s = o.short i k in
          let f = o.falls i k in
          falls_once (load hash weight m) 32 h (d i) l
          (omega (arith, f.0, ap (load hash weight m (d i)) e), λ j q. omega (arith, f.1 j q, ap (load hash weight m j) (pre_across 32 h w i (d i) j (omega arith) (omega arith) s e))) a

      pub split_holds : ((i : ℕ) → i < 2 ^ w → SplitEntry hash h l n m' w d d' recs recs' i) → Holds hash weight m' w d' recs'
      split_holds step =
          record {
            short = λ i k. ⊎_elim (λ r. omega (arith, r.1, o.short i k)) (⊎_elim (λ r. omega (arith, r.2, r.5)) (λ r. omega (arith, r.1))) (step i k);
            falls = λ i k.
                ⊎_elim (λ r. subst (Falls (load hash weight m') w i) r.1
                (grown_entry_off h (load hash weight m) (load hash weight m') (load_splits _ _ m) (load_splits _ _ m') g l n (omega arith) a b w i (d i) (o.short i k) narrow r.0 (o.falls i k)))
                (⊎_elim (λ r. subst (Falls (load hash weight m') w i) r.5
                (grown_entry_sibling h (load hash weight m) (load hash weight m') (load_splits _ _ m) (load_splits _ _ m') g l n (omega arith) a b w i r.0 r.1 r.2 (omega (arith, r.2)) r.3 r.4))
                (λ r. subst (Falls (load hash weight m') w i) r.1
                (entry_own (load hash weight m') h n w i (omega arith) short b r.0)))
                (step i k);
            has = λ i k.
                ⊎_elim (λ r. begun_at m' (d i) (d' i) _ _ _ _ r.1 (ap (pre w i) r.1) r.2
                (kept i k (λ e. r.0 (let z = own_length i k e in subst (λ v. pre w i v ≡ pre 32 h v) z (sym e)))))
                (⊎_elim (λ r. begun_at m' (suc r.0) (d' i) _ _ _ _ r.5 (ap (pre w i) r.5) refl r.6) (λ r. begun_at m' n (d' i) _ _ _ _ r.1 (ap (pre w i) r.1) refl r.2))
                (step i k);
          }

    -- merges
    module _ (g : Grows h (load hash weight m') (load hash weight m)) (n : ℕ) (short : n ≤ w) (b : Falls (load hash weight m') 32 h n) where
      -- a bucket that h begins with begins with h's new one
      own_begins : (i : ℕ) → i < 2 ^ w → pre 32 h (d i) ≡ pre w i (d i) → pre w i n ≡ pre 32 h n
      own_begins i k e =
          let s = o.short i k in
          ⊎_elim (λ (lt : d i < n). absurd (omega (arith, b.1 (d i) lt, g.on (d i), (o.falls i k).0, ap (load hash weight m (d i)) e)))
          (λ (ge : n ≤ d i). pre_across w i 32 h (d i) n ge s (omega arith) (sym e)) (cases_lt (d i) n)

      pub merge_holds : ((i : ℕ) → i < 2 ^ w → MergedEntry hash h n m' w d d' recs recs' i) → Holds hash weight m' w d' recs'
      merge_holds step =
          record {
            short = λ i k. ⊎_elim (λ r. omega (arith, r.1, o.short i k)) (λ r. omega (arith, r.1)) (step i k);
            falls = λ i k.
                ⊎_elim (λ r. subst (Falls (load hash weight m') w i) r.1
                (shrunk_entry_off h (load hash weight m) (load hash weight m') (load_splits _ _ m) (load_splits _ _ m') g n (omega arith) b w i (d i) (o.short i k) narrow r.0 (o.falls i k)))
                (λ r. subst (Falls (load hash weight m') w i) r.1
                (entry_own (load hash weight m') h n w i (omega arith) short b r.0))
                (step i k);
            has = λ i k.
                ⊎_elim (λ r. begun_at m' (d i) (d' i) _ _ _ _ r.1 (ap (pre w i) r.1) r.2 (kept i k (λ e. r.0 (own_begins i k e))))
                (λ r. begun_at m' n (d' i) _ _ _ _ r.1 (ap (pre w i) r.1) refl r.2)
                (step i k);
          }

-- ---- the same, for a change of a map

module _ (R : Rule) (law : Lawful R) (c : Change) (m : List Rec) (v : R.valid (key_of c) ≡ true) (valid : Valid R m)
    (w : ℕ) (d d' : ℕ → ℕ) (recs recs' : ℕ → List Rec) (narrow : w ≤ 32) (o : Holds (hashed R) size m w d recs) (l n : ℕ) (short : n ≤ w)
    (a : Falls (loads R m) 32 (R.hash (key_of c)) l) (b : Falls (loads R (made R c m)) 32 (R.hash (key_of c)) n) where
  split_by : Grows (R.hash (key_of c)) (loads R m) (loads R (made R c m)) → ((i : ℕ) → i < 2 ^ w → SplitEntry (hashed R) (R.hash (key_of c)) l n (made R c m) w d d' recs recs' i)
      → Holds (hashed R) size (made R c m) w d' recs'
  split_by g step = split_holds (hashed R) size (R.hash (key_of c)) m (made R c m) (made_rest R law c m v valid) w narrow d d' recs recs' o g l n short a b step

  merge_by : Grows (R.hash (key_of c)) (loads R (made R c m)) (loads R m) → ((i : ℕ) → i < 2 ^ w → MergedEntry (hashed R) (R.hash (key_of c)) n (made R c m) w d d' recs recs' i)
      → Holds (hashed R) size (made R c m) w d' recs'
  merge_by g step = merge_holds (hashed R) size (R.hash (key_of c)) m (made R c m) (made_rest R law c m v valid) w narrow d d' recs recs' o g n short b step

  -- a bucket that stays as long can be taken either way
  pub change_split : l ≤ n → ((i : ℕ) → i < 2 ^ w → SplitEntry (hashed R) (R.hash (key_of c)) l n (made R c m) w d d' recs recs' i) → Holds (hashed R) size (made R c m) w d' recs'
  change_split le step =
      ⊎_elim (λ g. split_by g step)
      (λ g. let e : l ≡ n = omega (arith, grown_longer _ _ _ (load_splits _ _ (made R c m)) (load_splits _ _ m) g n l b a) in
      merge_by g (λ i k. ⊎_elim (λ r. inl (subst (λ j. pre w i j ≡ pre 32 (R.hash (key_of c)) j → ⊥) e r.0, r.1, r.2)) (⊎_elim (λ r. absurd (omega (arith, r.1, r.2))) inr) (step i k)))
      (made_grows R law c m v valid)

  pub change_merge : n ≤ l → ((i : ℕ) → i < 2 ^ w → MergedEntry (hashed R) (R.hash (key_of c)) n (made R c m) w d d' recs recs' i) → Holds (hashed R) size (made R c m) w d' recs'
  change_merge le step =
      ⊎_elim
      (λ g. let e : n ≡ l = omega (arith, grown_longer _ _ _ (load_splits _ _ m) (load_splits _ _ (made R c m)) g l n a b) in
      split_by g (λ i k. ⊎_elim (λ r. inl (subst (λ j. pre w i j ≡ pre 32 (R.hash (key_of c)) j → ⊥) e r.0, r.1, r.2)) (λ r. inr (inr r)) (step i k)))
      (λ g. merge_by g step)
      (made_grows R law c m v valid)

-- ---- a bucket's records tell the loads at and below it

once_kept : {X : Type 0} (t : X → Bool) (xs : List X) → Once xs → Once (filter t xs)
once_kept t [] o = tt
once_kept {X} t (x ∷ xs) o = go (once_kept t xs o.1) (t x)
  where
    go : Once (filter t xs) → (v : Bool) → Once (cond v (x ∷ filter t xs) (filter t xs))
    go rest true = ((λ i. o.0 (in_kept t x xs i).0), rest)
    go rest false = rest

module _ {X : Type 0} (hash weight : X → ℕ) (m xs : List X) (n p : ℕ) (om : Once m) (ox : Once xs) (b : Begun hash m n p xs) where
  -- the load of a longer prefix, from the bucket's records alone
  pub begun_load : (k q : ℕ) → n ≤ k → k ≤ 32 → pre k q n ≡ p → load hash weight xs k q ≡ load hash weight m k q
  begun_load k q low high e =
      ap (λ (L : Loads). L k q)
      (load_same hash weight xs (filter (λ x. eqb (pre 32 (hash x) n) p) m) ox (once_kept (λ x. eqb (pre 32 (hash x) n) p) m om)
      (λ x. (
        (λ i. kept_in (λ y. eqb (pre 32 (hash y) n) p) x m ((b x).0 i).0 (eq-eqb (pre 32 (hash x) n) p ((b x).0 i).1)),
        λ i. let r = in_kept (λ y. eqb (pre 32 (hash y) n) p) x m i in (b x).1 r.0 (eqb-true (pre 32 (hash x) n) p r.1),
      )))
      ∙ load_filtered hash weight m n p k q low high e

  -- its bytes are the load of its own prefix
  pub begun_bytes : n ≤ 32 → load hash weight m n p ≡ sum_by weight xs
  begun_bytes h = sym (begun_load n p (omega arith) h (pre_self n p)) ∙ load_all_in hash weight xs n p (all_in (λ x. pre 32 (hash x) n ≡ p) xs (λ x i. ((b x).0 i).1))
