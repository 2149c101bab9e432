-- Changes of a map: what one does to the loads and the buckets, and what two do.
use Rattle.std.proofs.Common.{◌≡◌, ℕ, ◌+◌, ◌^◌, ◌<◌, ◌≤◌, true, false, ◌⊎◌, List, sym, ap, ◌∙◌, inl, inr, ⊎_elim, arith, lit≤}
use Rattle.std.proofs.lemmas.Bool.{cases_lt, cases_Bool, both_ways}
use Rattle.keys.specs.Rule.{Rule, Lawful}
use Rattle.tree.specs.Members.{In, Same}
use Rattle.tree.specs.Maps.{Rec, size, Valid, Sound, held, Change, Put, Delete, key_of, added, new_of, made}
use Rattle.tree.specs.Prefix.{pre}
use Rattle.tree.specs.Loads.{Loads, Splits, loads}
use Rattle.tree.specs.Trees.{number, Roomy, SplitDown}
use Rattle.tree.proofs.Prefixes.{pre_below}
use Rattle.tree.proofs.Loading.{load_splits}
use Rattle.tree.proofs.Partition.{has_bucket, falls_bucket}
use Rattle.tree.proofs.Growth.{Grows, grows_le, grown_longer, grown_cases, cases_grown}
use Rattle.tree.proofs.Listing.{grown_number}
use Rattle.tree.proofs.Mapping.{in_without, without_in, without_sound, put_sound, same_loads, without_off, without_on, put_off, put_on, put_grows, put_shrinks, without_shrinks, all_of}

-- ---- how the buckets move where loads grow along the hash h

module _ (h : ℕ) (L L' : Loads) (s : Splits L) (s' : Splits L') (g : Grows h L L') (k : h < 2 ^ 32) (r : Roomy L') where
  roomy_less : Roomy L
  roomy_less p l = omega (arith, grows_le h L L' s s' g 8 p, r p l)

  pub grown_split : (l n : ℕ) × SplitDown h l n L L'
  grown_split =
      let a = has_bucket L 32 h (roomy_less (pre 32 h 8) (pre_below 32 h 8 (lit≤ tt) k)) in
      let b = has_bucket L' 32 h (r (pre 32 h 8) (pre_below 32 h 8 (lit≤ tt) k)) in (
        a.0,
        b.0,
        record {
          longer = grown_longer h L L' s s' g a.0 b.0 a.2 b.2;
          within = b.1;
          old = falls_bucket L 32 h a.0 (omega (arith, a.1)) a.2;
          new = λ n p w. (grown_cases h L L' s s' g a.0 b.0 (omega (arith, b.1)) a.2 b.2 n p w, cases_grown h L L' s s' g a.0 b.0 (omega (arith, b.1)) a.2 b.2 n p);
          more = grown_number h L L' s s' g a.0 b.0 a.2 b.2 k b.1;
        },
      )

  -- at most eight more
  grown_near : (number L ≤ number L') × (number L' ≤ number L + 8)
  grown_near = let d = grown_split.2 in (omega (arith, d.more, d.longer), omega (arith, d.more, d.within))

module _ (R : Rule) where
  pub made_sound : (c : Change) (m : List Rec) → R.valid (key_of c) ≡ true → Sound R m → Sound R (made R c m)
  made_sound (Put r) m v s = put_sound R r m v s
  made_sound (Delete k) m v s = without_sound R k m s

  pub in_made : (c : Change) (m : List Rec) (x : Rec) → In x (made R c m) → In x (new_of c) ⊎ (In x m × (R.same (key_of c) x.key ≡ false))
  in_made (Put r) m x (inl e) = inl (inl e)
  in_made (Put r) m x (inr i) = inr (in_without R r.key m x i)
  in_made (Delete k) m x i = inr (in_without R k m x i)

  pub made_new : (c : Change) (m : List Rec) (x : Rec) → In x (new_of c) → In x (made R c m)
  made_new (Put r) m x (inl e) = inl e
  made_new (Put r) m x (inr z) = absurd z
  made_new (Delete k) m x i = absurd i

  pub made_old : (c : Change) (m : List Rec) (x : Rec) → In x m → R.same (key_of c) x.key ≡ false → In x (made R c m)
  made_old (Put r) m x i h = inr (without_in R r.key m x i h)
  made_old (Delete k) m x i h = without_in R k m x i h

  pub new_key : (c : Change) (x : Rec) → In x (new_of c) → x.key ≡ key_of c
  new_key (Put r) x (inl e) = ap (λ (v : Rec). v.key) (sym e)
  new_key (Put r) x (inr z) = absurd z
  new_key (Delete k) x i = absurd i

  swapped : (c d : Change) (m : List Rec) → R.same (key_of d) (key_of c) ≡ false → (x : Rec) → In x (made R c (made R d m)) → In x (made R d (made R c m))
  swapped c d m apart x i =
      ⊎_elim (λ n. made_old d (made R c m) x (made_new c m x n) (ap (R.same (key_of d)) (new_key c x n) ∙ apart))
      (λ o. ⊎_elim (λ n. made_new d (made R c m) x n) (λ p. made_old d (made R c m) x (made_old c m x p.0 o.1) p.1) (in_made d m x o.0))
      (in_made c (made R d m) x i)

  module _ (law : Lawful R) where
    apart_back : (j k : List ℕ) → R.valid j ≡ true → R.valid k ≡ true → R.same j k ≡ false → R.same k j ≡ false
    apart_back j k v w h = ⊎_elim (λ t. absurd (both_ways (R.same j k) h (law.symmetric k j w v t))) (λ f. f) (cases_Bool (R.same k j))

    -- two changes to keys that are not the same leave equal maps in either order
    pub either_order : (c d : Change) (m : List Rec) → R.valid (key_of c) ≡ true → R.valid (key_of d) ≡ true → R.same (key_of c) (key_of d) ≡ false
        → Same (made R c (made R d m)) (made R d (made R c m))
    either_order c d m v w h x = ((λ i. swapped c d m (apart_back (key_of c) (key_of d) v w h) x i), λ i. swapped d c m h x i)

    -- and equal loads, so equal buckets
    pub either_loads : (c d : Change) (m : List Rec) → Sound R m → R.valid (key_of c) ≡ true → R.valid (key_of d) ≡ true → R.same (key_of c) (key_of d) ≡ false
        → loads R (made R c (made R d m)) ≡ loads R (made R d (made R c m))
    either_loads c d m s v w h =
        same_loads R law _ _ (made_sound c (made R d m) v (made_sound d m w s)) (made_sound d (made R c m) w (made_sound c m v s)) (either_order c d m v w h)

    -- of two changes to one key the later alone counts
    pub later_alone : (c d : Change) (m : List Rec) → Valid R m → R.valid (key_of c) ≡ true → R.valid (key_of d) ≡ true → R.same (key_of d) (key_of c) ≡ true
        → Same (made R d (made R c m)) (made R d m)
    later_alone c d m a v w h x = (
      (λ i. ⊎_elim (λ n. made_new d m x n)
          (λ o. ⊎_elim (λ n. absurd (both_ways (R.same (key_of d) x.key) o.1 (ap (R.same (key_of d)) (new_key c x n) ∙ h))) (λ p. made_old d m x p.0 o.1) (in_made c m x o.0))
          (in_made d (made R c m) x i)),
      (λ i. ⊎_elim (λ n. made_new d (made R c m) x n)
          (λ o. made_old d (made R c m) x
          (made_old c m x o.0
          (⊎_elim (λ t. absurd (both_ways (R.same (key_of d) x.key) o.1
          (law.transitive (key_of d) (key_of c) x.key w v (all_of (λ r. R.valid r.key ≡ true) x m a o.0) h t))) (λ f. f)
          (cases_Bool (R.same (key_of c) x.key))))
          o.1) (in_made d m x i)),
    )

    -- the loads change along the key's prefixes alone, and there by one amount
    pub made_off : (c : Change) (m : List Rec) → R.valid (key_of c) ≡ true → Valid R m → (n p : ℕ) → (p ≡ pre 32 (R.hash (key_of c)) n → ⊥) → loads R (made R c m) n p ≡ loads R m n p
    made_off (Put r) m v a = put_off R law r m v a
    made_off (Delete k) m v a = without_off R law k m v a

    pub made_on : (c : Change) (m : List Rec) → R.valid (key_of c) ≡ true → Valid R m → (n : ℕ)
        → loads R (made R c m) n (pre 32 (R.hash (key_of c)) n) + held R (key_of c) m ≡ loads R m n (pre 32 (R.hash (key_of c)) n) + added c
    made_on (Put r) m v a n = put_on R law r m v a n
    made_on (Delete k) m v a n = without_on R law k m v a n ∙ (omega arith)

    -- they grow or shrink
    pub made_grows : (c : Change) (m : List Rec) → R.valid (key_of c) ≡ true → Valid R m
        → Grows (R.hash (key_of c)) (loads R m) (loads R (made R c m)) ⊎ Grows (R.hash (key_of c)) (loads R (made R c m)) (loads R m)
    made_grows (Put r) m v a =
        ⊎_elim (λ (lt : size r < held R r.key m). inr (put_shrinks R law r m v a (omega arith))) (λ ge. inl (put_grows R law r m v a ge)) (cases_lt (size r) (held R r.key m))
    made_grows (Delete k) m v a = inr (without_shrinks R law k m v a)

    -- one change moves the number of buckets by at most eight
    pub made_near : (c : Change) (m : List Rec) → R.valid (key_of c) ≡ true → Valid R m → Roomy (loads R m) → Roomy (loads R (made R c m))
        → (number (loads R (made R c m)) ≤ number (loads R m) + 8) × (number (loads R m) ≤ number (loads R (made R c m)) + 8)
    made_near c m v a r r' =
        ⊎_elim
        (λ g. let n = grown_near (R.hash (key_of c)) (loads R m) (loads R (made R c m)) (load_splits _ _ m) (load_splits _ _ (made R c m)) g (law.bits (key_of c)) r' in
        (n.1, omega (arith, n.0)))
        (λ g. let n = grown_near (R.hash (key_of c)) (loads R (made R c m)) (loads R m) (load_splits _ _ (made R c m)) (load_splits _ _ m) g (law.bits (key_of c)) r in
        (omega (arith, n.0), n.1))
        (made_grows c m v a)

    -- a change leaves every record whose hash is not the key's
    pub made_rest : (c : Change) (m : List Rec) → R.valid (key_of c) ≡ true → Valid R m → (x : Rec) → (R.hash x.key ≡ R.hash (key_of c) → ⊥)
        → (In x m → In x (made R c m)) × (In x (made R c m) → In x m)
    made_rest c m v a x ne = (
      (λ i. made_old c m x i
          (⊎_elim (λ t. absurd (ne (sym (law.hashes (key_of c) x.key v (all_of (λ r. R.valid r.key ≡ true) x m a i) t)))) (λ f. f) (cases_Bool (R.same (key_of c) x.key)))),
      λ i. ⊎_elim (λ n. absurd (ne (ap R.hash (new_key c x n)))) (λ o. o.0) (in_made c m x i),
    )
