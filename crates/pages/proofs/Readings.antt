-- An image is read in one way, and what it holds is the tree's.
use Rattle.std.proofs.Common.{◌≡◌, ℕ, zero, suc, ◌+◌, ◌-◌, ◌*◌, ◌/◌, ◌%◌, ◌^◌, ◌<◌, ◌≤◌, Bool, true, false, cond, eqb, leb, ◌⊎◌, List, [], ◌∷◌, ◌++◌, length, sym, refl, ap, ◌∙◌, subst, ap₂, inl, inr, ⊎_elim, arith, pow_mono}
use Rattle.std.specs.List.{AllByRecursion}
use Rattle.std.proofs.lemmas.Bool.{cases_lt, cases_Bool, eqb-true, cond-true, cond-false, and_parts}
use Rattle.device.specs.Meaning.{State, Alike}
use Rattle.tree.specs.Prefix.{pre}
use Rattle.tree.specs.Trees.{Falls, number, depth}
use Rattle.tree.specs.Members.{In, Same}
use Rattle.tree.specs.Maps.{Rec, Apart, Sound, size}
use Rattle.keys.specs.Rule.{Rule, Lawful}
use Rattle.tree.specs.Loads.{loads}
use Rattle.tree.specs.Images.{gathered, at_first, image_map, Pages, BytesTested, Holds}
use Rattle.tree.proofs.Sets.{same_refl, same_sym, same_trans, in_append}
use Rattle.std.proofs.lemmas.Nat.{shr_split}
use Rattle.pages.specs.declared.root.Root.{Root}
use Rattle.layout.specs.Envelope.{envelope}
use Rattle.pages.specs.Bytes.{root_body, entry_at, Directory}
use Rattle.tree.proofs.Mapping.{all_of, all_in}
use Rattle.tree.proofs.Imaging.{in_gathered, image_in, apart}
use Rattle.tree.proofs.Recovering.{tree_bytes, pages_hold}
use Rattle.tree.specs.Classes.{row_at}
use Rattle.pages.specs.Records.{Fine, within, BucketIs}
use Rattle.pages.specs.Images.{shows, root_in, root, entry, named, wide, W4, W5, ReadAs, map_of, AllMet, WellFormed}
use Rattle.pages.proofs.Envelopes.{bucket_one}

-- ---- the reading of an image

module _ (K : Rule) (e : ℕ → State) (w : W4 K e) where
  depth_at : (i : ℕ) → (i < wide e) ⊎ (wide e ≤ i) → ℕ
  depth_at i (inl h) = (w i h).0
  depth_at i (inr h) = 0

  unfoldable pub recs_at : (i : ℕ) → (i < wide e) ⊎ (wide e ≤ i) → List Rec
  recs_at i (inl h) = (w i h).1
  recs_at i (inr h) = []

  read_at : (i : ℕ) (t : (i < wide e) ⊎ (wide e ≤ i)) → i < wide e → BucketIs (named e i) (depth_at i t) (recs_at i t)
  unfolding depth_at recs_at
  read_at i (inl h) l = (w i h).2
  read_at i (inr h) l = absurd (omega arith)

  pub some_reading : (d : ℕ → ℕ) × (recs : ℕ → List Rec) × ReadAs e d recs
  some_reading = ((λ i. depth_at i (cases_lt i (wide e))), (λ i. recs_at i (cases_lt i (wide e))), λ i l. read_at i (cases_lt i (wide e)) l)

  -- the records of any reading may stand in a page
  pub all_fine : (d : ℕ → ℕ) (recs : ℕ → List Rec) → ReadAs e d recs → (i : ℕ) → i < wide e → AllByRecursion (Fine K.valid) (recs i)
  all_fine d recs r i h =
      let b = w i h in
      subst (AllByRecursion (Fine K.valid)) (bucket_one (named e i) b.0 (d i) b.1 (recs i) b.2 (r i h)).1 b.3

pub gathered_same : {X : Type 0} (f g : ℕ → List X) (n : ℕ) → ((j : ℕ) → j < n → f j ≡ g j) → gathered f n ≡ gathered g n
unfolding gathered
gathered_same f g zero a = refl
gathered_same f g (suc n) a = ap₂ (λ xs ys. xs ++ ys) (gathered_same f g n (λ j h. a j (omega arith))) (a n (omega arith))

-- two readings make one map
pub one_map : (e : ℕ → State) (d d' : ℕ → ℕ) (recs recs' : ℕ → List Rec) → ReadAs e d recs → ReadAs e d' recs' → map_of e d recs ≡ map_of e d' recs'
one_map e d d' recs recs' r r' =
    gathered_same _ _ (wide e)
    (λ j h. let o = bucket_one (named e j) (d j) (d' j) (recs j) (recs' j) (r j h) (r' j h) in
    (λ i. cond (eqb (j % 2 ^ ((root e).depth - o.0 i)) 0) (o.1 i) []))

-- an image holds one map
pub one_held : (K : Rule) (n : ℕ) (e : ℕ → State) (m m' : List Rec) → WellFormed K n e m → WellFormed K n e m' → Same m m'
one_held K n e m m' a b =
    let s = some_reading K e a.met.fourth in
    same_trans m (map_of e s.0 s.1) m' (a.holds s.0 s.1 s.2) (same_sym m' (map_of e s.0 s.1) (b.holds s.0 s.1 s.2))

-- ---- the pages of the tree

module _ (K : Rule) (e : ℕ → State) (w5 : W5 K e) (d : ℕ → ℕ) (recs : ℕ → List Rec) (r : ReadAs e d recs) where
  alike_pages : (i j : ℕ) → i < wide e → j < wide e → pre (root e).depth j (d i) ≡ pre (root e).depth i (d i) → (d j ≡ d i) × (recs j ≡ recs i)
  alike_pages i j h l p =
      let q : entry e j ≡ entry e i = (w5 i (d i) (recs i) h (r i h)).every j l p in
      bucket_one (named e i) (d j) (d i) (recs j) (recs i) (subst (λ k. BucketIs (shows (e k)) (d j) (recs j)) q (r j l)) (r i h)

  pub pages_five : Pages (λ x. K.hash x.key) (root e).depth d recs
  pages_five =
      record {
        parts = record { short = λ i h. (w5 i (d i) (recs i) h (r i h)).short; whole = λ i j h l p. (alike_pages i j h l p).0 };
        shared = λ i j h l p. (alike_pages i j h l p).1;
        begin = λ i h. (w5 i (d i) (recs i) h (r i h)).hashes;
      }

module _ (K : Rule) (n : ℕ) (e : ℕ → State) (met : AllMet K n e) (d : ℕ → ℕ) (recs : ℕ → List Rec) (r : ReadAs e d recs) where
  pub pages : Pages (λ x. K.hash x.key) (root e).depth d recs
  pages = pages_five K e met.fifth d recs r

  narrow : (root e).depth ≤ 32
  narrow = omega (arith, met.first.deep)

  pub tested : BytesTested size (root e).depth d recs
  tested = tree_bytes (λ x. K.hash x.key) size (root e).depth narrow d recs pages (met.sixth d recs r).falls

  pub held : Holds (λ x. K.hash x.key) size (map_of e d recs) (root e).depth d recs
  held = pages_hold (λ x. K.hash x.key) size (root e).depth narrow d recs pages tested

-- ---- the map of an image is a map

pub fine_valid : (valid : List ℕ → Bool) (x : Rec) → Fine valid x → valid x.key ≡ true
fine_valid valid x f = (and_parts (leb x.last 199999) (valid x.key) (and_parts (within (row_at x.class) (length x.value)) _ f).1).1

pub apart_append : (R : Rule) (xs ys : List Rec) → Apart R xs → Apart R ys → ((x y : Rec) → In x xs → In y ys → R.same x.key y.key ≡ false) → Apart R (xs ++ ys)
apart_append R [] ys a b c = b
apart_append R (x ∷ xs) ys a b c = (
  all_in (λ s. R.same x.key s.key ≡ false) (xs ++ ys)
      (λ s i. ⊎_elim (λ l. all_of (λ t. R.same x.key t.key ≡ false) s xs a.0 l) (λ r. c x s (inl refl) r) (in_append s xs ys i)),
  apart_append R xs ys a.1 b (λ u v i j. c u v (inr i) j),
)

module _ (K : Rule) (law : Lawful K) (e : ℕ → State) (deep : (root e).depth ≤ 8) (w4 : W4 K e) (w5 : W5 K e) (d : ℕ → ℕ) (recs : ℕ → List Rec) (r : ReadAs e d recs) where
  at : ℕ → List Rec
  at = at_first (root e).depth d recs

  pub recs_valid : (i : ℕ) → i < wide e → (x : Rec) → In x (recs i) → K.valid x.key ≡ true
  recs_valid i h x m = fine_valid K.valid x (all_of (Fine K.valid) x (recs i) (all_fine K e w4 d recs r i h) m)

  -- where a page counts, it is at its first entry
  in_first : (j : ℕ) (x : Rec) → In x (at j) → (j % 2 ^ ((root e).depth - d j) ≡ 0) × In x (recs j)
  unfolding at
  in_first j x m =
      ⊎_elim
      (λ t. (eqb-true (j % 2 ^ ((root e).depth - d j)) 0 t, subst (In x) (cond-true _ (recs j) [] t) m))
      (λ t. absurd (let z : In x [] = subst (In x) (cond-false _ (recs j) [] t) m in z))
      (cases_Bool (eqb (j % 2 ^ ((root e).depth - d j)) 0))

  first_apart : (j : ℕ) → j < wide e → Apart K (at j)
  unfolding at
  first_apart j h =
      ⊎_elim
      (λ t. subst (Apart K) (sym (cond-true _ (recs j) [] t)) (w5 j (d j) (recs j) h (r j h)).apart)
      (λ t. subst (Apart K) (sym (cond-false _ (recs j) [] t)) tt)
      (cases_Bool (eqb (j % 2 ^ ((root e).depth - d j)) 0))

  -- two keys that are the same stand in one page
  one_page : (j k : ℕ) → j < wide e → k < wide e → (x y : Rec) → In x (at j) → In y (at k) → K.same x.key y.key ≡ true → j ≡ k
  one_page j k h l x y mx my s =
      let P = pages_five K e w5 d recs r in
      let fx = in_first j x mx in
      let fy = in_first k y my in
      let hx : K.hash x.key ≡ K.hash y.key = law.hashes x.key y.key (recs_valid j h x fx.1) (recs_valid k l y fy.1) s in
      let bx : pre 32 (K.hash x.key) (d j) ≡ pre (root e).depth j (d j) = all_of (λ z. pre 32 (K.hash z.key) (d j) ≡ pre (root e).depth j (d j)) x (recs j) (P.begin j h) fx.1 in
      let by : pre 32 (K.hash y.key) (d j) ≡ pre (root e).depth j (d j) = ap (λ v. pre 32 v (d j)) (sym hx) ∙ bx in
      let a : pre (root e).depth k (d j) ≡ pre (root e).depth j (d j) = apart (λ z. K.hash z.key) size (root e).depth (omega (arith, deep)) d recs P j k h l y fy.1 by in
      let q : d k ≡ d j = P.parts.whole j k h l a in
      let sj : j ≡ pre (root e).depth j (d j) * 2 ^ ((root e).depth - d j) = omega (arith, shr_split j ((root e).depth - d j), fx.0) in
      let sk : k ≡ pre (root e).depth k (d k) * 2 ^ ((root e).depth - d k) = omega (arith, shr_split k ((root e).depth - d k), fy.0) in
      sj ∙ sym (sk ∙ ap₂ (λ u v. u * 2 ^ ((root e).depth - v)) (ap (pre (root e).depth k) q ∙ a) q)

  not_same : (j k : ℕ) → j < wide e → k < wide e → (j ≡ k → ⊥) → (x y : Rec) → In x (at j) → In y (at k) → K.same x.key y.key ≡ false
  not_same j k h l ne x y mx my = ⊎_elim (λ t. absurd (ne (one_page j k h l x y mx my t))) (λ f. f) (cases_Bool (K.same x.key y.key))

  apart_below : (k : ℕ) → k ≤ wide e → Apart K (gathered at k)
  unfolding gathered
  apart_below zero h = tt
  apart_below (suc k) h =
      let lt : k < wide e = omega arith in
      apart_append K (gathered at k) (at k) (apart_below k (omega arith)) (first_apart k lt)
      (λ x y mx my. let q = in_gathered at x k mx in not_same q.0 k (omega (arith, q.1)) lt (λ z. omega (arith, q.1)) x y q.2 my)

  pub map_sound : Sound K (map_of e d recs)
  unfolding at
  map_sound =
      record {
        valid = all_in (λ x. K.valid x.key ≡ true) (map_of e d recs)
            (λ x i. let q = image_in (λ z. K.hash z.key) size (root e).depth (omega (arith, deep)) d recs (pages_five K e w5 d recs r) x i in recs_valid q.0 q.1 x q.2);
        apart = apart_below (wide e) (omega arith);
      }

-- an image that meets all six holds a map
pub some_held : (K : Rule) → Lawful K → (n : ℕ) (e : ℕ → State) → AllMet K n e → (m : List Rec) × WellFormed K n e m
some_held K law n e met =
    let s = some_reading K e met.fourth in (
      map_of e s.0 s.1,
      record {
        met = met;
        map = map_sound K law e met.first.deep met.fourth met.fifth s.0 s.1 s.2;
        holds = λ d recs r. subst (Same (map_of e s.0 s.1)) (one_map e s.0 d s.1 recs s.2 r) (same_refl (map_of e s.0 s.1));
      },
    )

-- a map told in another order is held as well
pub any_order : (K : Rule) (n : ℕ) (e : ℕ → State) (m m' : List Rec) → WellFormed K n e m → Sound K m' → Same m m' → WellFormed K n e m'
any_order K n e m m' f s q = record { met = f.met; map = s; holds = λ d recs r. same_trans m' m (map_of e d recs) (same_sym m m' q) (f.holds d recs r) }

-- ---- only the pages below the count matter

module _ (K : Rule) (n : ℕ) (e e' : ℕ → State) (al : Alike n e e') (a : AllMet K n e) where
  zeroth : e 0 ≡ e' 0
  zeroth = al 0 (omega (arith, a.first.room))

  roots : root e ≡ root e'
  roots = ap (λ s. root_in (shows s)) zeroth

  page_eq : (j : ℕ) → j < 4 → shows (e (1 + j)) ≡ shows (e' (1 + j))
  page_eq j h = ap shows (al (1 + j) (omega (arith, a.first.room, a.first.least)))

  ent : (i : ℕ) → i < 256 → entry e i ≡ entry e' i
  ent i h = let q : i / 64 < 4 = omega arith in ap (λ p. entry_at p (i % 64)) (page_eq (i / 64) q)

  small : wide e ≤ 256
  small = pow_mono a.first.deep

  back_wide : (i : ℕ) → i < wide e' → i < wide e
  back_wide i h = subst (λ (r : Root). i < 2 ^ r.depth) (sym roots) h

  nam : (i : ℕ) → i < wide e → named e i ≡ named e' i
  nam i h =
      let t = a.third i h in
      let q : entry e i < n = omega (arith, t.1, a.first.room) in
      ap shows (al (entry e i) q) ∙ ap (λ k. shows (e' k)) (ent i (omega (arith, small)))

  pub read_back : (d : ℕ → ℕ) (recs : ℕ → List Rec) → ReadAs e' d recs → ReadAs e d recs
  read_back d recs r = λ i h. subst (λ p. BucketIs p (d i) (recs i)) (sym (nam i h)) (r i (subst (λ (r : Root). i < 2 ^ r.depth) roots h))

  pub met_alike : AllMet K n e'
  met_alike =
      record {
        first = record {
          layout = subst (λ s. shows s ≡ envelope (root_body (root_in (shows s)))) zeroth a.first.layout;
          kind = subst (λ (r : Root). r.kind ≡ K.kind) roots a.first.kind;
          deep = subst (λ (r : Root). r.depth ≤ 8) roots a.first.deep;
          least = subst (λ (r : Root). 1 ≤ r.limit) roots a.first.least;
          most = subst (λ (r : Root). r.limit ≤ 256) roots a.first.most;
          room = subst (λ (r : Root). r.limit + 5 ≤ n) roots a.first.room;
        };
        second = record {
          layout = λ j h. subst Directory (page_eq j h) (a.second.layout j h);
          unused = λ i h l. sym (ent i l) ∙ a.second.unused i (subst (λ (r : Root). 2 ^ r.depth ≤ i) (sym roots) h) l;
        };
        third = λ i h. let t = a.third i (back_wide i h) in let q = ent i (omega (arith, back_wide i h, small)) in
            (subst (λ k. 5 ≤ k) q t.0, let u : entry e' i ≤ 4 + (root e).limit = subst (λ k. k ≤ 4 + (root e).limit) q t.1 in subst (λ (r : Root). entry e' i ≤ 4 + r.limit) roots u);
        fourth = λ i h. let b = a.fourth i (back_wide i h) in (b.0, b.1, subst (λ p. BucketIs p b.0 b.1) (nam i (back_wide i h)) b.2, b.3);
        fifth = λ i d rs h b.
            let h0 = back_wide i h in
            let p = a.fifth i d rs h0 (subst (λ p. BucketIs p d rs) (sym (nam i h0)) b) in
            let qi = ent i (omega (arith, h0, small)) in
            record {
              short = subst (λ (r : Root). d ≤ r.depth) roots p.short;
              only = λ j l q. let l0 = back_wide j l in subst (λ (r : Root). pre r.depth j d ≡ pre r.depth i d) roots (p.only j l0 (ent j (omega (arith, l0, small)) ∙ q ∙ sym qi));
              every = λ j l q. let l0 = back_wide j l in
                  sym (ent j (omega (arith, l0, small))) ∙ p.every j l0 (subst (λ (r : Root). pre r.depth j d ≡ pre r.depth i d) (sym roots) q) ∙ qi;
              hashes = subst (λ (r : Root). AllByRecursion (λ (x : Rec). pre 32 (K.hash x.key) d ≡ pre r.depth i d) rs) roots p.hashes;
              apart = p.apart;
            };
        sixth = λ d recs rd.
            let q = a.sixth d recs (read_back d recs rd) in
            record {
              falls = λ i h. subst (λ (r : Root). Falls (loads K (image_map r.depth d recs)) r.depth i (d i)) roots (q.falls i (back_wide i h));
              depth = subst (λ (r : Root). r.depth ≡ depth (loads K (image_map r.depth d recs))) roots q.depth;
              used = subst (λ (r : Root). r.used ≡ number (loads K (image_map r.depth d recs))) roots q.used;
              records = subst (λ (r : Root). r.records ≡ length (image_map r.depth d recs)) roots q.records;
            };
      }

pub only_pages : (K : Rule) (n : ℕ) (e e' : ℕ → State) (m : List Rec) → Alike n e e' → WellFormed K n e m → WellFormed K n e' m
only_pages K n e e' m al f =
    record {
      met = met_alike K n e e' al f.met;
      map = f.map;
      holds = λ d recs rd. subst (λ (r : Root). Same m (image_map r.depth d recs)) (roots K n e e' al f.met) (f.holds d recs (read_back K n e e' al f.met d recs rd));
    }
