-- The record of a key: in a map, in the bucket of its hash, and in the pages.
use Rattle.std.proofs.Common.{◌≡◌, ◌≢◌, ℕ, ◌+◌, ◌/◌, ◌%◌, ◌^◌, ◌<◌, ◌≤◌, min, Bool, true, false, cond, eqb, ◌⊎◌, List, [], ◌∷◌, length, IfSome, Some, None, Option, sym, refl, ap, ◌∙◌, subst, inl, inr, ⊎_elim, arith, pow_mono, MatchOption}
use Rattle.std.specs.List.{AllByRecursion}
use Rattle.std.proofs.lemmas.Bool.{both_ways, cases_Bool, cond-true, cond-false, and_parts, leb-true, false≢true}
use Rattle.device.specs.Meaning.{State, bytes, spoiled}
use Rattle.keys.specs.Rule.{Rule, Lawful}
use Rattle.layout.specs.Envelope.{envelope}
use Rattle.tree.specs.declared.classes.ClassRow.{ClassRow}
use Rattle.tree.specs.declared.classes.Class.{Class}
use Rattle.tree.specs.Classes.{row, row_at, scan, mark, draft}
use Rattle.tree.specs.Members.{In}
use Rattle.tree.specs.Prefix.{pre}
use Rattle.tree.specs.Loads.{hashed}
use Rattle.tree.specs.Maps.{Rec, Apart, Valid}
use Rattle.tree.proofs.Mapping.{all_of}
use Rattle.tree.proofs.Prefixes.{pre_below, pre_pre}
use Rattle.tree.proofs.Sets.{in_right}
use Rattle.pages.specs.declared.root.Root.{Root}
use Rattle.pages.specs.Bytes.{root_body, entry_at}
use Rattle.pages.specs.Records.{records, BucketIs, BucketRead, Fine, FoundAt, within}
use Rattle.pages.specs.Images.{shows, root, root_in, entry, AllMet, WellFormed}
use Rattle.pages.proofs.Checking.{root_is}
use Rattle.pages.specs.Laws.{Fits}
use Rattle.pages.proofs.Envelopes.{bucket_one}
use Rattle.pages.proofs.Forming.{formed_to}
use Rattle.pages.proofs.Gathering.{spoiled_bucket}
use Rattle.access.specs.declared.lookup.Found.{Found}
use Rattle.access.specs.Seek.{seek, told, filled, found_of, letter_in}

-- ---- in a map

pub seek_none : (R : Rule) (k : List ℕ) (m : List Rec) → ((x : Rec) → In x m → R.same k x.key ≡ false) → seek R k m ≡ None
seek_none R k [] f = refl
seek_none R k (x ∷ m) f = cond-false (R.same k x.key) (Some x) (seek R k m) (f x (inl refl)) ∙ seek_none R k m (λ y i. f y (inr i))

module _ (R : Rule) (law : Lawful R) (k : List ℕ) (valid : R.valid k ≡ true) where
  -- no two records of a map have the key
  apart : (x y : Rec) (m : List Rec) → R.valid y.key ≡ true → Valid R m → AllByRecursion (λ s. R.same y.key s.key ≡ false) m → In x m → R.same k y.key ≡ true → R.same k x.key ≡ true → ⊥
  apart x y m vy vm a i hy hx =
      let vx = all_of (λ r. R.valid r.key ≡ true) x m vm i in
      both_ways (R.same y.key x.key) (all_of (λ s. R.same y.key s.key ≡ false) x m a i)
      (law.transitive y.key k x.key vy valid vx (law.symmetric k y.key valid vy hy) hx)

  at_head : (x y : Rec) (m : List Rec) → R.valid y.key ≡ true → Valid R m → AllByRecursion (λ s. R.same y.key s.key ≡ false) m → (y ≡ x) ⊎ In x m → R.same k y.key ≡ true → R.same k x.key ≡ true → y ≡ x
  at_head x y m vy vm a (inl e) hy hx = e
  at_head x y m vy vm a (inr i) hy hx = absurd (apart x y m vy vm a i hy hx)

  at_tail : (x y : Rec) (m : List Rec) → (y ≡ x) ⊎ In x m → R.same k y.key ≡ false → R.same k x.key ≡ true → In x m
  at_tail x y m (inl e) hy hx = absurd (both_ways (R.same k x.key) (subst (λ (z : Rec). R.same k z.key ≡ false) e hy) hx)
  at_tail x y m (inr i) hy hx = i

  pub seek_some : (m : List Rec) (x : Rec) → Valid R m → Apart R m → In x m → R.same k x.key ≡ true → seek R k m ≡ Some x
  seek_some [] x v a i h = absurd i
  seek_some (y ∷ m) x v a i h = ⊎_elim
      (λ t. cond-true (R.same k y.key) (Some y) (seek R k m) t ∙ ap (λ (z : Rec). Some z) (at_head x y m v.0 v.1 a.0 i t h))
      (λ f. cond-false (R.same k y.key) (Some y) (seek R k m) f ∙ seek_some m x v.1 a.1 (at_tail x y m i f h) h)
      (cases_Bool (R.same k y.key))

-- ---- in a page

pub bucket_bytes : (valid : List ℕ → Bool) (page bs : List ℕ) (b d : ℕ) (rs : List Rec) → BucketRead valid page b bs → BucketIs page d rs → bs ≡ records rs
bucket_bytes valid page bs b d rs q is = q.2 ∙ ap records (bucket_one page b d q.0 rs q.1 is).1

pub found_in : (same : List ℕ → List ℕ → Bool) (key : List ℕ) (rs : List Rec) (at : ℕ) (x : Rec) → FoundAt same key rs at x → In x rs
found_in same key rs at x f = subst (In x) (sym f.split) (in_right x f.before (x ∷ f.after) (inl refl))

row_short : (o : Option ClassRow) (n : ℕ) → IfSome o (λ row. row.longest ≤ 120) → within o n ≡ true → n ≤ 120
row_short None n l h = absurd (false≢true h)
row_short (Some r) n l h = omega (arith, leb-true n r.longest h)

row_longest : (a b c : Bool) → IfSome (cond a (Some scan) (cond b (Some mark) (cond c (Some draft) None))) (λ row. row.longest ≤ 120)
row_longest true b c = omega arith
row_longest false true c = omega arith
row_longest false false true = omega arith
row_longest false false false = tt

-- no value is longer than 120 bytes
pub fine_short : (valid : List ℕ → Bool) (x : Rec) → Fine valid x → length x.value ≤ 120
fine_short valid x f =
    row_short (row_at x.class) (length x.value) (row_longest (eqb x.class 1) (eqb x.class 2) (eqb x.class 3))
    (and_parts (within (row_at x.class) (length x.value)) _ f).0

-- the letter of a class that is listed
pub class_letter : (o : Option ClassRow) (c : Class) (r : ClassRow) → o ≡ Some (row c) → r ≡ row c → r.letter ≡ letter_in o
class_letter o c r e f = ap (λ (z : ClassRow). z.letter) f ∙ ap letter_in (sym e)

-- a record that may stand in a page is of a class that is listed
pub fine_listed : (valid : List ℕ → Bool) (x : Rec) → Fine valid x → row_at x.class ≡ None → ⊥
fine_listed valid x f e = false≢true (ap (λ o. within o (length x.value)) (sym e) ∙ (and_parts (within (row_at x.class) (length x.value)) _ f).0)

-- ---- in an image

-- the first bits of a hash, at most eight, are less than 256
pub prefix_small : (hash dep i : ℕ) → hash < 2 ^ 32 → dep ≤ 8 → i ≡ pre 32 hash dep → i < 256
prefix_small hash dep i h d e = let p : 2 ^ dep ≤ 2 ^ 8 = pow_mono d in omega (arith, pre_below 32 hash dep (omega arith) h, p)

module _ (R : Rule) (n : ℕ) (f : ℕ → State) where
  -- a page of the image that is by some layout was read
  pub home_is : (hash dep i : ℕ) (p q : List ℕ) (x : Root) → f 0 ≡ bytes p → p ≡ envelope (root_body x) → f (1 + i / 64) ≡ bytes q
      → dep ≡ min x.depth 8 → i ≡ pre 32 hash dep → AllMet R n f → entry_at q (i % 64) ≡ entry f (pre 32 hash (root f).depth)
  home_is hash dep i p q x zero is one d e m =
      let same : root f ≡ x = ap root_in (ap shows zero) ∙ root_is p x is in
      let t : dep ≡ (root f).depth = d ∙ ap (λ (r : Root). min r.depth 8) (sym same) ∙ omega (arith, m.first.deep) in
      let u : i ≡ pre 32 hash (root f).depth = e ∙ ap (pre 32 hash) t in
      ap (λ (z : List ℕ). entry_at z (i % 64)) (ap shows (sym one)) ∙ ap (entry f) u

  -- page 0 is by layout
  pub root_laid : (p : List ℕ) → f 0 ≡ bytes p → ((x : Root) → p ≢ envelope (root_body x)) → AllMet R n f → ⊥
  root_laid p zero un m = un (root f) (ap shows (sym zero) ∙ m.first.layout)

module _ (R : Rule) (law : Lawful R) (n : ℕ) (f : ℕ → State) (m : List Rec) (formed : WellFormed R n f m) (k : List ℕ) (valid : R.valid k ≡ true) where
  depths : ℕ → ℕ
  depths = (formed_to R law n f m formed).0

  recs : ℕ → List Rec
  recs = (formed_to R law n f m formed).1

  fits : Fits R (root f) (entry f) depths recs m
  unfolding depths recs
  fits = (formed_to R law n f m formed).4

  abbrev w : ℕ
  w = (root f).depth

  abbrev home : ℕ
  home = pre 32 (R.hash k) w

  deep : w ≤ 8
  deep = formed.met.first.deep

  home_below : home < 2 ^ w
  home_below = pre_below 32 (R.hash k) w (omega (arith, deep)) (law.bits k)

  pub at_home : (p h : ℕ) → h ≡ R.hash k → p ≡ entry f (pre 32 h (root f).depth) → p ≡ entry f home
  at_home p h e q = q ∙ ap (λ z. entry f (pre 32 z w)) e

  pub home_page_below : (p : ℕ) → p ≡ entry f home → p < n
  home_page_below p e = omega (arith, (formed.met.third home home_below).1, formed.met.first.room)

  bucket : BucketIs (shows (f (entry f home))) (depths home) (recs home)
  unfolding depths recs
  bucket = (formed_to R law n f m formed).2.buckets home home_below

  all_fine : AllByRecursion (Fine R.valid) (recs home)
  all_fine = fits.fine home home_below

  -- the key's bucket has the records of the map that have its hash
  from_bucket : (x : Rec) → In x (recs home) → In x m
  from_bucket x i = ((fits.holds.has home home_below x).0 i).0

  to_bucket : (x : Rec) → In x m → R.same k x.key ≡ true → In x (recs home)
  to_bucket x i h =
      let v = all_of (λ r. R.valid r.key ≡ true) x m formed.map.valid i in
      let e : hashed R x ≡ R.hash k = sym (law.hashes k x.key valid v h) in
      let t : pre 32 (hashed R x) (depths home) ≡ pre w home (depths home) =
      ap (λ z. pre 32 z (depths home)) e ∙ sym (pre_pre 32 (R.hash k) w (depths home) (fits.holds.short home home_below) (omega (arith, deep))) in
      (fits.holds.has home home_below x).1 i t

  pub home_shown : (p : ℕ) → p ≡ entry f home → f p ≡ spoiled → ⊥
  home_shown p e s = spoiled_bucket f (entry f home) (depths home) (recs home) (subst (λ q. f q ≡ spoiled) e s) bucket

  -- what is told of a bucket's page is told of the map
  bucket_told : (out out' : List ℕ) (o : Option Found)
      → MatchOption o (AllByRecursion (λ x. R.same k x.key ≡ false) (recs home) × (out' ≡ out)) (λ g. (x : Rec) × In x (recs home) × (R.same k x.key ≡ true) × (g ≡ found_of x) × (out' ≡ filled (Some x) out))
      → (o ≡ told (seek R k m)) × (out' ≡ filled (seek R k m) out)
  bucket_told out out' None (a, e) =
      let s : seek R k m ≡ None = seek_none R k m (λ x i. ⊎_elim (λ t. all_of (λ y. R.same k y.key ≡ false) x (recs home) a (to_bucket x i t)) (λ h. h) (cases_Bool (R.same k x.key))) in
      (ap told (sym s), e ∙ ap (λ (y : Option Rec). filled y out) (sym s))
  bucket_told out out' (Some g) (x, i, h, e, b) =
      let s : seek R k m ≡ Some x = seek_some R law k valid m x formed.map.valid formed.map.apart (from_bucket x i) h in
      (ap (λ (y : Found). Some y) e ∙ ap told (sym s), b ∙ ap (λ (y : Option Rec). filled y out) (sym s))

  pub look_told : (p : ℕ) (page : List ℕ) → p ≡ entry f home → f p ≡ bytes page → (out out' : List ℕ) (o : Option Found) → 120 ≤ length out
      → ((d : ℕ) (rs : List Rec) → BucketIs page d rs → AllByRecursion (Fine R.valid) rs → 120 ≤ length out
      → MatchOption o (AllByRecursion (λ x. R.same k x.key ≡ false) rs × (out' ≡ out)) (λ g. (x : Rec) × In x rs × (R.same k x.key ≡ true) × (g ≡ found_of x) × (out' ≡ filled (Some x) out)))
      → (o ≡ told (seek R k m)) × (out' ≡ filled (seek R k m) out)
  look_told p page e r out out' o l c =
      let s = subst (λ q. f q ≡ bytes page) e r in
      bucket_told out out' o (c (depths home) (recs home) (subst (λ s. BucketIs (shows s) (depths home) (recs home)) s bucket) all_fine l)
