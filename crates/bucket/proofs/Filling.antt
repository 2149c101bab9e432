-- A walk over the records of a bucket that writes those that a change leaves into a page.
use Rattle.std.proofs.Common.{◌≡◌, ℕ, ◌+◌, ◌<◌, ◌≤◌, Bool, true, false, List, [], ◌∷◌, ◌++◌, length, Some, sum_by, filter, Option, sym, refl, ap, ◌∙◌, subst, arith, length-append, Result, Ok, Err}
use Rattle.std.specs.Result.{MatchResult}
use Rattle.layout.specs.declared.NoRoom.{NoRoom}
use Rattle.std.proofs.lemmas.List.{append_assoc, append-nil}
use Rattle.std.proofs.lemmas.Bool.{cond-true, cond-false}
use Rattle.layout.specs.Envelope.{envelope, Enveloped, Extended}
use Rattle.layout.proofs.Envelopes.{extend_fits}
use Rattle.tree.specs.Maps.{Rec, size}
use Rattle.pages.specs.declared.records.Record.{Record}
use Rattle.pages.specs.Records.{viewed, record_bytes, records, bucket_body, BucketIs}
use Rattle.pages.proofs.Codec.{record_length, records_append, records_length}
use Rattle.pages.proofs.Changed.{append_made}
use Rattle.pages.proofs.Walks.{one_more, no_more, shorter}
use Rattle.bucket.specs.Sifts.{new_in}

-- a bucket's page is by layout
pub bucket_enveloped : (p : List ℕ) (d : ℕ) (rs : List Rec) → BucketIs p d rs → Enveloped p (bucket_body d rs)
bucket_enveloped p d rs b = record { fits = omega (arith, b.fits); is = b.is }

-- one record more, where there is room
pub record_added : (p p' : List ℕ) (d : ℕ) (rs : List Rec) (x : Rec) (r : Result (Unit {0}) NoRoom) → BucketIs p d rs → length (records rs) + size x ≤ 248
    → ((body : List ℕ) → Enveloped p body → Extended p' body (record_bytes x) r) → BucketIs p' d (rs ++ x ∷ [])
record_added p p' d rs x r b room ext =
    append_made p' d (records rs) rs x refl
    (extend_fits p' (bucket_body d rs) (record_bytes x) r (ext (bucket_body d rs) (bucket_enveloped p d rs b)) (omega (arith, record_length x)))

module _ (t : Rec → Bool) (d : ℕ) where
  -- the page has the records taken so far, and with those among what is left it will have all; there is room for what is left
  abbrev pub Filled : List ℕ → List ℕ → List ℕ → Type 0
  Filled bs left page = (rs : List Rec) → bs ≡ records rs → length bs ≤ 248
      → (kept more : List Rec) × (left ≡ records more) × (kept ++ filter t more ≡ filter t rs) × BucketIs page d kept × (length (records kept) + length left ≤ 248)

  pub filled_none : (bs page : List ℕ) → BucketIs page d [] → Filled bs bs page
  filled_none bs page b = λ rs r short. ([], rs, r, refl, b, omega arith)

  pub filled_kept : (bs left after : List ℕ) (x : Rec) (page page' : List ℕ) (done : Result (Unit {0}) NoRoom) → left ≡ record_bytes x ++ after → t x ≡ true
      → ((body : List ℕ) → Enveloped page body → Extended page' body (record_bytes x) done) → Filled bs left page → Filled bs after page'
  filled_kept bs left after x page page' done e h ext c = λ rs r short.
      let k = c rs r short in
      let o = one_more left after x k.1 e k.2 in
      let z : filter t k.1 ≡ x ∷ filter t o.0 = ap (filter t) o.1 ∙ cond-true (t x) (x ∷ filter t o.0) (filter t o.0) h in
      let s = shorter left after x e in
      let a : records (k.0 ++ x ∷ []) ≡ records k.0 ++ (record_bytes x ++ []) = records_append k.0 (x ∷ []) in (
        k.0 ++ x ∷ [],
        o.0,
        o.2,
        append_assoc k.0 (x ∷ []) (filter t o.0) ∙ ap (λ (l : List Rec). k.0 ++ l) (sym z) ∙ k.3,
        record_added page page' d k.0 x done k.4 (omega (arith, k.5, s)) ext,
        omega (arith, k.5, s, ap length a, length-append (records k.0) (record_bytes x ++ []), length-append (record_bytes x) [], record_length x),
      )

  pub filled_not : (bs left after : List ℕ) (x : Rec) (page : List ℕ) → left ≡ record_bytes x ++ after → t x ≡ false → Filled bs left page → Filled bs after page
  filled_not bs left after x page e h c = λ rs r short.
      let k = c rs r short in
      let o = one_more left after x k.1 e k.2 in
      let z : filter t k.1 ≡ filter t o.0 = ap (filter t) o.1 ∙ cond-false (t x) (x ∷ filter t o.0) (filter t o.0) h in
      (k.0, o.0, o.2, ap (λ (l : List Rec). k.0 ++ l) (sym z) ∙ k.3, k.4, omega (arith, k.5, shorter left after x e))

  pub filled_all : (bs left page : List ℕ) → ((x : Rec) (rest : List ℕ) → left ≡ record_bytes x ++ rest → ⊥) → Filled bs left page
      → (rs : List Rec) → bs ≡ records rs → length bs ≤ 248 → BucketIs page d (filter t rs)
  filled_all bs left page un c rs r short =
      let k = c rs r short in
      let z : k.0 ≡ filter t rs = sym (append-nil k.0) ∙ ap (λ (l : List Rec). k.0 ++ filter t l) (sym (no_more left k.1 un k.2)) ∙ k.3 in
      subst (BucketIs page d) z k.4

-- the new record behind the others
pub own_added : (o : Option Record) (x : Record) → o ≡ Some x → (p p' : List ℕ) (d : ℕ) (rs : List Rec) → BucketIs p d rs
    → ((body : List ℕ) → Enveloped p body → Enveloped p' (body ++ record_bytes (viewed x))) → BucketIs p' d (rs ++ new_in o)
own_added o x e p p' d rs b ext =
    subst (λ (v : Option Record). BucketIs p' d (rs ++ new_in v)) (sym e) (append_made p' d (records rs) rs (viewed x) refl (ext (bucket_body d rs) (bucket_enveloped p d rs b)))

pub own_full : (o : Option Record) (x : Record) → o ≡ Some x → (p p' : List ℕ) (d : ℕ) (rs : List Rec) → BucketIs p d rs
    → ((body : List ℕ) → Enveloped p body → (249 < length body + length (record_bytes (viewed x))) × (p' ≡ envelope body)) → 248 < sum_by size rs + sum_by size (new_in o)
own_full o x e p p' d rs b ext =
    let f = ext (bucket_body d rs) (bucket_enveloped p d rs b) in
    subst (λ (v : Option Record). 248 < sum_by size rs + sum_by size (new_in v)) (sym e) (omega (arith, f.0, record_length (viewed x), records_length rs))

-- the records of two siblings, one behind the other
pub joined_made : (o : Result (List ℕ) NoRoom) (d : ℕ) (front back : List ℕ) (xs ys : List Rec) → front ≡ records xs → back ≡ records ys
    → MatchResult o (λ p. Enveloped p (d ∷ (front ++ back))) (λ _. 248 < length front + length back) → MatchResult o (λ p. BucketIs p d (xs ++ ys)) (λ _. 248 < sum_by size xs + sum_by size ys)
joined_made (Err _) d front back xs ys f b h = omega (arith, h, ap length f, ap length b, records_length xs, records_length ys)
joined_made (Ok p) d front back xs ys f b v =
    let a : front ++ back ≡ records (xs ++ ys) = (λ i. f i ++ b i) ∙ sym (records_append xs ys) in
    record { fits = omega (arith, v.fits, ap length a); is = v.is ∙ ap (λ (l : List ℕ). envelope (d ∷ l)) a }
