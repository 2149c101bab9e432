-- A check of an image, put together.
use Rattle.std.proofs.Common.{◌≡◌, ℕ, ◌+◌, ◌*◌, ◌^◌, ◌<◌, ◌≤◌, ◌⊎◌, List, length, take, sym, ap, ◌∙◌, subst, inl, inr, arith, pow_mono}
use Rattle.std.proofs.lemmas.Bool.{cases_lt}
use Rattle.device.specs.Meaning.{State}
use Rattle.tree.specs.Prefix.{pre}
use Rattle.tree.specs.Maps.{Rec}
use Rattle.keys.specs.Rule.{Rule}
use Rattle.pages.specs.declared.root.Root.{Root}
use Rattle.pages.specs.declared.root.Condition.{Condition}
use Rattle.pages.specs.declared.root.Condition.TheVariants.{RootPage, DirectoryPages, UsedEntries, BucketPages, Placement, Tree}
use Rattle.pages.specs.Bytes.{Directory}
use Rattle.pages.specs.Records.{records, BucketIs}
use Rattle.pages.specs.Images.{shows, root, entry, named, wide, W1, W2, W3, W4, W5, W6, Meets, number_of, AllMet, Lowest}
use Rattle.pages.specs.Checks.{Unused, InRange, LaidOut}
use Rattle.pages.specs.Surveys.{depth_at, bytes_at, count_at, AllPlaced, EntriesPlaced, RecordsPlaced, NumberRight, TreeTested, StandsBehind}
use Rattle.pages.specs.Gathered.{AllPaged, Gathered, AllStand, AllBuckets}
use Rattle.pages.specs.declared.survey.Bucket.{Bucket}
use Rattle.pages.proofs.Gathering.{paged_first, paged_gathered, placed_stand, stand_placed}
use Rattle.pages.proofs.Readings.{recs_at}
use Rattle.pages.proofs.Deciding.{Surveyed, five_from, five_entries, six_from, six_to}

-- ---- the lowest broken condition

module _ (K : Rule) (n : ℕ) (e : ℕ → State) where
  pub lowest_1 : (W1 K n e → ⊥) → Lowest K n e RootPage
  lowest_1 un = ((λ b h. below b h), un)
    where
      below : (b : Condition) → number_of b < 1 → Meets K n e b
      below RootPage h = absurd (omega arith)
      below DirectoryPages h = absurd (omega arith)
      below UsedEntries h = absurd (omega arith)
      below BucketPages h = absurd (omega arith)
      below Placement h = absurd (omega arith)
      below Tree h = absurd (omega arith)

  pub lowest_2 : W1 K n e → (W2 e → ⊥) → Lowest K n e DirectoryPages
  lowest_2 a un = ((λ b h. below b h), un)
    where
      below : (b : Condition) → number_of b < 2 → Meets K n e b
      below RootPage h = a
      below DirectoryPages h = absurd (omega arith)
      below UsedEntries h = absurd (omega arith)
      below BucketPages h = absurd (omega arith)
      below Placement h = absurd (omega arith)
      below Tree h = absurd (omega arith)

  pub lowest_3 : W1 K n e → W2 e → (W3 e → ⊥) → Lowest K n e UsedEntries
  lowest_3 a b un = ((λ b h. below b h), un)
    where
      below : (k : Condition) → number_of k < 3 → Meets K n e k
      below RootPage h = a
      below DirectoryPages h = b
      below UsedEntries h = absurd (omega arith)
      below BucketPages h = absurd (omega arith)
      below Placement h = absurd (omega arith)
      below Tree h = absurd (omega arith)

  pub lowest_4 : W1 K n e → W2 e → W3 e → (W4 K e → ⊥) → Lowest K n e BucketPages
  lowest_4 a b c un = ((λ b h. below b h), un)
    where
      below : (k : Condition) → number_of k < 4 → Meets K n e k
      below RootPage h = a
      below DirectoryPages h = b
      below UsedEntries h = c
      below BucketPages h = absurd (omega arith)
      below Placement h = absurd (omega arith)
      below Tree h = absurd (omega arith)

  pub lowest_5 : W1 K n e → W2 e → W3 e → W4 K e → (W5 K e → ⊥) → Lowest K n e Placement
  lowest_5 a b c d un = ((λ b h. below b h), un)
    where
      below : (k : Condition) → number_of k < 5 → Meets K n e k
      below RootPage h = a
      below DirectoryPages h = b
      below UsedEntries h = c
      below BucketPages h = d
      below Placement h = absurd (omega arith)
      below Tree h = absurd (omega arith)

  pub lowest_6 : W1 K n e → W2 e → W3 e → W4 K e → W5 K e → (W6 K e → ⊥) → Lowest K n e Tree
  lowest_6 a b c d f un = ((λ b h. below b h), un)
    where
      below : (k : Condition) → number_of k < 6 → Meets K n e k
      below RootPage h = a
      below DirectoryPages h = b
      below UsedEntries h = c
      below BucketPages h = d
      below Placement h = f
      below Tree h = absurd (omega arith)

-- ---- from what was read to the conditions

module _ (K : Rule) (n : ℕ) (e : ℕ → State) (x : Root) (w : ℕ) (ew : w ≡ x.depth) (w1 : W1 K n e) (rx : root e ≡ x) where
  dep : w ≡ (root e).depth
  dep = ew ∙ ap (λ (y : Root). y.depth) (sym rx)

  lim : x.limit ≡ (root e).limit
  lim = ap (λ (y : Root). y.limit) (sym rx)

  small : wide e ≤ 2 ^ 8
  small = pow_mono w1.deep

  within : (i : ℕ) → i < wide e → i < 64 * 4
  within i h = omega (arith, small)

  to_w : (i : ℕ) → i < wide e → i < 2 ^ w
  to_w i h = subst (λ v. i < 2 ^ v) (sym dep) h

  of_w : (i : ℕ) → i < 2 ^ w → i < wide e
  of_w i h = subst (λ v. i < 2 ^ v) dep h

  -- E i is the entry i that was read
  module _ (E : ℕ → ℕ) (ents : (i : ℕ) → i < 64 * 4 → E i ≡ entry e i) where
    pub second_from : ((j : ℕ) → j < 4 → Directory (shows (e (1 + j)))) → Unused E w → W2 e
    second_from d u = record { layout = d; unused = λ i h l. sym (ents i (omega arith)) ∙ u i (subst (λ v. 2 ^ v ≤ i) (sym dep) h) l }

    pub second_not : (Unused E w → ⊥) → W2 e → ⊥
    second_not un a = un (λ i h l. ents i (omega arith) ∙ a.unused i (subst (λ v. 2 ^ v ≤ i) dep h) l)

    pub third_from : InRange E w x.limit → W3 e
    third_from r i h = let q = r i (to_w i h) in (omega (arith, q.0, ents i (within i h)), omega (arith, q.1, ents i (within i h), lim))

    pub third_not : (InRange E w x.limit → ⊥) → W3 e → ⊥
    third_not un a = un (λ i h. let q = a i (of_w i h) in (omega (arith, q.0, ents i (within i (of_w i h))), omega (arith, q.1, ents i (within i (of_w i h)), lim)))

  -- of a used entry
  module _ (E : ℕ → ℕ) (used : (i : ℕ) → i < 2 ^ w → E i ≡ entry e i) where
    page : (i : ℕ) → i < wide e → shows (e (E i)) ≡ named e i
    page i h = ap (λ k. shows (e k)) (used i (to_w i h))

    pub fourth_not : (AllBuckets K (λ i. shows (e (E i))) (2 ^ w) → ⊥) → W4 K e → ⊥
    fourth_not un a = un (λ i h. let h0 = of_w i h in let b = a i h0 in (b.0, b.1, subst (λ p. BucketIs p b.0 b.1) (sym (page i h0)) b.2, b.3))

    module _ (D S C : ℕ → ℕ) (g : Gathered K (λ i. shows (e (E i))) D S C (2 ^ w)) where
      pub fourth_from : W4 K e
      fourth_from i h = let a = g i (to_w i h) in (D i, a.recs, subst (λ p. BucketIs p (D i) a.recs) (page i h) a.is, a.fine)

      pub recs : ℕ → List Rec
      recs i = recs_at K e fourth_from i (cases_lt i (wide e))

      is_of : (i : ℕ) (t : (i < wide e) ⊎ (wide e ≤ i)) → i < wide e → BucketIs (named e i) (D i) (recs_at K e fourth_from i t) × (S i ≡ length (records (recs_at K e fourth_from i t))) × (C i ≡ length (recs_at K e fourth_from i t))
      unfolding recs_at fourth_from
      is_of i (inl h) l = let a = g i (to_w i h) in (subst (λ p. BucketIs p (D i) a.recs) (page i h) a.is, a.bytes, a.count)
      is_of i (inr h) l = absurd (omega arith)

      surveyed : Surveyed e E D S C recs
      unfolding recs
      surveyed =
          record {
            entries = λ i h. used i (to_w i h);
            reads = λ i h. (is_of i (cases_lt i (wide e)) h).0;
            sizes = λ i h. (is_of i (cases_lt i (wide e)) h).1;
            counts = λ i h. (is_of i (cases_lt i (wide e)) h).2;
          }

      pub fifth_from : AllStand K (λ i. shows (e (E i))) D w (2 ^ w) → EntriesPlaced E D w → W5 K e
      fifth_from st en =
          five_from K e E D S C recs surveyed (subst (EntriesPlaced E D) dep en)
          (λ i h. let q = st i (to_w i h) (recs i) (subst (λ p. BucketIs p (D i) (recs i)) (sym (page i h)) (surveyed.reads i h)) in
          subst (λ v. RecordsPlaced K (D i) (pre v i (D i)) (recs i)) dep q.1)

      pub fifth_not_stand : (AllStand K (λ i. shows (e (E i))) D w (2 ^ w) → ⊥) → W5 K e → ⊥
      fifth_not_stand un a =
          un (λ i h rs b.
          let h0 = of_w i h in
          let p = a i (D i) rs h0 (subst (λ q. BucketIs q (D i) rs) (page i h0) b) in
          subst (λ v. StandsBehind K (D i) i v rs) (sym dep) (p.short, (p.hashes, p.apart)))

      pub fifth_not_entries : (EntriesPlaced E D w → ⊥) → W5 K e → ⊥
      fifth_not_entries un a = un (subst (EntriesPlaced E D) (sym dep) (five_entries K e E D S C recs surveyed a))

      pub sixth_from : W5 K e → (r : ℕ) → NumberRight D x.depth r → TreeTested D S C x r → W6 K e
      sixth_from w5 r num t =
          six_from K e E D S C recs surveyed w1.deep w5 r (subst (λ (y : Root). NumberRight D y.depth r) (sym rx) num) (subst (λ (y : Root). TreeTested D S C y r) (sym rx) t)

      pub sixth_not : W5 K e → (r : ℕ) → NumberRight D x.depth r → (TreeTested D S C x r → ⊥) → W6 K e → ⊥
      sixth_not w5 r num un a =
          un (subst (λ (y : Root). TreeTested D S C y r) rx (six_to K e E D S C recs surveyed w1.deep w5 r (subst (λ (y : Root). NumberRight D y.depth r) (sym rx) num) a))

-- ---- the last three conditions, where the first three hold

module _ (K : Rule) (n : ℕ) (e : ℕ → State) (x : Root) (w : ℕ) (ew : w ≡ x.depth) (E : ℕ → ℕ) (l : LaidOut K n e x E) where
  abbrev P : ℕ → List ℕ
  P i = shows (e (E i))

  used : (i : ℕ) → i < 2 ^ w → E i ≡ entry e i
  used i h = l.entries i (within K n e x w ew l.first l.rooted i (of_w K n e x w ew l.first l.rooted i h))

  -- each page named is below the count
  pub named_below : (i : ℕ) → i < 2 ^ w → E i < n
  named_below i h =
      let q = l.third i (of_w K n e x w ew l.first l.rooted i h) in
      omega (arith, q.1, l.first.room, used i h)

  pub broken_4 : (AllBuckets K P (2 ^ w) → ⊥) → Lowest K n e BucketPages
  broken_4 un = lowest_4 K n e l.first l.second l.third (fourth_not K n e x w ew l.first l.rooted E used un)

  -- the buckets that were gathered
  module _ (all : List Bucket) (b : AllPaged K P w all (2 ^ w)) where
    abbrev bs : List Bucket
    bs = take (2 ^ w) all

    a : AllPaged K P w bs (2 ^ w)
    a = paged_first K P w all (2 ^ w) b

    abbrev D : ℕ → ℕ
    D = depth_at bs

    abbrev S : ℕ → ℕ
    S = bytes_at bs

    abbrev C : ℕ → ℕ
    C = count_at bs

    g : Gathered K P D S C (2 ^ w)
    g = paged_gathered K P w bs (2 ^ w) a

    fourth : W4 K e
    fourth = fourth_from K n e x w ew l.first l.rooted E used D S C g

    pub broken_5_records : (AllPlaced bs w → ⊥) → Lowest K n e Placement
    broken_5_records un = lowest_5 K n e l.first l.second l.third fourth (fifth_not_stand K n e x w ew l.first l.rooted E used D S C g (λ q. un (stand_placed K P w bs (2 ^ w) a q)))

    pub broken_5_entries : (EntriesPlaced E D w → ⊥) → Lowest K n e Placement
    broken_5_entries un = lowest_5 K n e l.first l.second l.third fourth (fifth_not_entries K n e x w ew l.first l.rooted E used D S C g un)

    module _ (pl : AllPlaced bs w) (en : EntriesPlaced E D w) (r : ℕ) (num : NumberRight D x.depth r) where
      fifth : W5 K e
      fifth = fifth_from K n e x w ew l.first l.rooted E used D S C g (placed_stand K P w bs (2 ^ w) a pl) en

      pub broken_6 : (TreeTested D S C x r → ⊥) → Lowest K n e Tree
      broken_6 un = lowest_6 K n e l.first l.second l.third fourth fifth (sixth_not K n e x w ew l.first l.rooted E used D S C g fifth r num un)

      pub all_six : TreeTested D S C x r → AllMet K n e × (root e ≡ x)
      all_six t = (
        record {
          first = l.first;
          second = l.second;
          third = l.third;
          fourth = fourth;
          fifth = fifth;
          sixth = sixth_from K n e x w ew l.first l.rooted E used D S C g fifth r num t;
        },
        l.rooted,
      )
