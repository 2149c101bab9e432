-- The bytes of records and of buckets.
use Rattle.std.specs.Prelude.{◌≡◌, ℕ, ◌+◌, ◌≤◌, Bool, true, false, ◌&&◌, List, ◌∷◌, ◌++◌, length, Some, None, Option, MatchOption, ◌≢◌, nat_le}
use Rattle.std.specs.List.{flat_map, AllByRecursion}
use Rattle.tree.specs.declared.classes.ClassRow.{ClassRow}
use Rattle.tree.specs.Classes.{row_at}
use Rattle.tree.specs.Maps.{Rec}
use Rattle.pages.specs.declared.records.Record.{Record}
use Rattle.layout.specs.Envelope.{be2, envelope}
use Rattle.pages.specs.Bytes.{be4}

-- a record of the code, as a record of a map
abbrev pub viewed : Record → Rec
viewed r = record { class = r.class; last = r.day; key = r.key.now; value = r.value.now }

-- a record's bytes: its whole length (two), class, last day (four), key length, key, value
unfoldable pub record_bytes : Rec → List ℕ
record_bytes r =
    be2 (8 + length r.key + length r.value) ++ (r.class ∷ be4 r.last ++ (length r.key ∷ (r.key ++ r.value)))

-- records, one after the other
abbrev pub records : List Rec → List ℕ
records rs = flat_map record_bytes rs

-- a walk over bs, of which `left` is left, took the record that begins there with its place; or none begins there, and all is as it was
abbrev pub Walked : List ℕ → List ℕ → Option (ℕ × Record) → List ℕ → List ℕ → Type 0
Walked bs left r bs' left' =
    (bs' ≡ bs) × MatchOption r (((x : Rec) (rest : List ℕ) → left ≢ record_bytes x ++ rest) × (left' ≡ left)) (λ p. (p.0 + length left ≡ length bs) × (left ≡ record_bytes (viewed p.1) ++ left'))

-- the body of a bucket: its local depth, then its records
abbrev pub bucket_body : ℕ → List Rec → List ℕ
bucket_body d rs = d ∷ records rs

-- a page is a bucket by layout, of local depth d and with the records rs
pub record BucketIs (page : List ℕ) (d : ℕ) (rs : List Rec) : Type 0 where
  pub fits : length (records rs) ≤ 248
  pub is : page ≡ envelope (bucket_body d rs)

-- a value of n bytes is within the limit of its class, which is listed
abbrev pub within : Option ClassRow → ℕ → Bool
within None n = false
within (Some row) n = nat_le n row.longest

-- a record may stand in a page: its class is listed, its value within the limit of that class, its last day at most 199,999, and its key valid
abbrev pub fine : (List ℕ → Bool) → Rec → Bool
fine valid r = within (row_at r.class) (length r.value) && (nat_le r.last 199999 && valid r.key)

abbrev pub Fine : (List ℕ → Bool) → Rec → Type 0
Fine valid r = fine valid r ≡ true

-- a page is a bucket by layout, of local depth d, and these are the bytes of its records, which may stand in a page
abbrev pub BucketRead : (List ℕ → Bool) → List ℕ → ℕ → List ℕ → Type 0
BucketRead valid page d bs = (rs : List Rec) × BucketIs page d rs × (bs ≡ records rs) × AllByRecursion (Fine valid) rs

-- a page is no bucket by layout whose records may stand in a page
abbrev pub NoBucket : (List ℕ → Bool) → List ℕ → Type 0
NoBucket valid page = (d : ℕ) (rs : List Rec) → BucketIs page d rs → AllByRecursion (Fine valid) rs → ⊥

-- the first of the records rs whose key is the same as a given one is x, and it begins at that byte
pub record FoundAt (same : List ℕ → List ℕ → Bool) (key : List ℕ) (rs : List Rec) (at : ℕ) (x : Rec) : Type 0 where
  pub before : List Rec
  pub after : List Rec
  pub split : rs ≡ before ++ (x ∷ after)
  pub place : length (records before) ≡ at
  pub hit : same key x.key ≡ true
  pub first : AllByRecursion (λ y. same key y.key ≡ false) before
