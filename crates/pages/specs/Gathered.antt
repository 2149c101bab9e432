-- What a check gathers of the pages that the entries name. R is the key rule, P i the page that entry i names.
use Rattle.std.specs.Prelude.{◌≡◌, ℕ, ◌<◌, List, length}
use Rattle.std.specs.List.{AllByRecursion}
use Rattle.keys.specs.Rule.{Rule}
use Rattle.tree.specs.Maps.{Rec}
use Rattle.pages.specs.declared.survey.Bucket.{Bucket}
use Rattle.pages.specs.Tells.{Tells}
use Rattle.pages.specs.Records.{records, BucketIs, Fine}
use Rattle.pages.specs.Surveys.{bucket_at, StandsBehind}

-- of one page: it is a bucket by layout whose records may stand in a page, and b has its local depth, the bytes and the number of its records, and whether they stand rightly behind entry i of
-- a directory of w bits
pub record Paged (R : Rule) (page : List ℕ) (w i : ℕ) (b : Bucket) : Type 0 where
  pub recs : List Rec
  pub is : BucketIs page b.depth recs
  pub fine : AllByRecursion (Fine R.valid) recs
  pub bytes : b.bytes ≡ length (records recs)
  pub count : b.count ≡ length recs
  pub placed : Tells b.placed (StandsBehind R b.depth i w recs)

-- the same of the pages of all entries below n
abbrev pub AllPaged : Rule → (ℕ → List ℕ) → ℕ → List Bucket → ℕ → Type 0
AllPaged R P w bs n = (i : ℕ) → i < n → Paged R (P i) w i (bucket_at bs i)

-- a page is a bucket by layout of local depth d, with s bytes in c records, which may stand in a page
pub record GatheredAt (R : Rule) (page : List ℕ) (d s c : ℕ) : Type 0 where
  pub recs : List Rec
  pub is : BucketIs page d recs
  pub fine : AllByRecursion (Fine R.valid) recs
  pub bytes : s ≡ length (records recs)
  pub count : c ≡ length recs

-- the same of the pages of all entries below n
abbrev pub Gathered : Rule → (ℕ → List ℕ) → (ℕ → ℕ) → (ℕ → ℕ) → (ℕ → ℕ) → ℕ → Type 0
Gathered R P D S C n = (i : ℕ) → i < n → GatheredAt R (P i) (D i) (S i) (C i)

-- the records of a page stand rightly behind entry i
abbrev pub Stood : Rule → List ℕ → ℕ → ℕ → ℕ → Type 0
Stood R page d i w = (rs : List Rec) → BucketIs page d rs → StandsBehind R d i w rs

-- the same of the pages of all entries below n
abbrev pub AllStand : Rule → (ℕ → List ℕ) → (ℕ → ℕ) → ℕ → ℕ → Type 0
AllStand R P D w n = (i : ℕ) → i < n → Stood R (P i) (D i) i w

-- the pages of all entries below n are buckets by layout whose records may stand in a page
abbrev pub AllBuckets : Rule → (ℕ → List ℕ) → ℕ → Type 0
AllBuckets R P n = (i : ℕ) → i < n → (d : ℕ) × (rs : List Rec) × BucketIs (P i) d rs × AllByRecursion (Fine R.valid) rs
