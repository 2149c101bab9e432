-- The pages that the entries name, gathered one by one.
use Rattle.std.proofs.Common.{◌≡◌, ℕ, ◌+◌, ◌<◌, ◌≤◌, Bool, true, false, List, [], ◌∷◌, length, get_or, set, take, MatchBool, sym, refl, ap, ◌∙◌, subst, arith, length-append, below_more}
use Rattle.std.specs.List.{AllByRecursion}
use Rattle.std.proofs.lemmas.Bool.{MatchBool-at_true}
use Rattle.std.proofs.lemmas.List.{get_or-set_same, get_or-set_other, get_or-take}
use Rattle.device.specs.Meaning.{State, spoiled}
use Rattle.tree.specs.Maps.{Rec}
use Rattle.keys.specs.Rule.{Rule}
use Rattle.layout.specs.Envelope.{envelope}
use Rattle.pages.specs.Records.{Fine, record_bytes, records, BucketIs}
use Rattle.pages.specs.Images.{shows}
use Rattle.pages.specs.Surveys.{bucket_at, depth_at, bytes_at, count_at, StandsBehind}
use Rattle.pages.specs.Gathered.{Paged, AllPaged, Gathered, AllStand, AllBuckets}
use Rattle.pages.specs.declared.survey.Bucket.{Bucket}
use Rattle.pages.proofs.Codec.{record_length}
use Rattle.pages.proofs.Envelopes.{bucket_one}

pub spoiled_bucket : (e : ℕ → State) (n d : ℕ) (rs : List Rec) → e n ≡ spoiled → BucketIs (shows (e n)) d rs → ⊥
unfolding envelope
spoiled_bucket e n d rs h b =
    let z : ◌≡◌ {A = ℕ} 0 1 = ap (λ (t : List ℕ). get_or t 0 0) (ap shows (sym h) ∙ b.is) in
    omega arith

abbrev no_bucket : Bucket
no_bucket = record { depth = 0; bytes = 0; count = 0; placed = false }

few : (rs : List Rec) → length rs ≤ length (records rs)
few [] = omega arith
few (r ∷ rs) = omega (arith, few rs, length-append (record_bytes r) (records rs), record_length r)

pub few_records : (p : List ℕ) (d : ℕ) (rs : List Rec) → BucketIs p d rs → length rs ≤ 248
few_records p d rs b = omega (arith, few rs, b.fits)

module _ (R : Rule) (P : ℕ → List ℕ) (w : ℕ) where
  -- one page more
  pub paged_more : (bs : List Bucket) (i : ℕ) (b : Bucket) → i < length bs → Paged R (P i) w i b → AllPaged R P w bs i → AllPaged R P w (set bs i b) (i + 1)
  paged_more bs i b h p a =
      below_more (λ k. Paged R (P k) w k (bucket_at (set bs i b) k)) i
      (λ k l. subst (Paged R (P k) w k) (sym (get_or-set_other bs i k b no_bucket (λ z. omega arith))) (a k l))
      (subst (Paged R (P i) w i) (sym (get_or-set_same bs i b no_bucket h)) p)

  pub not_bucket : (i n : ℕ) → i < n → ((d : ℕ) (rs : List Rec) → BucketIs (P i) d rs → AllByRecursion (Fine R.valid) rs → ⊥) → AllBuckets R P n → ⊥
  not_bucket i n h un a = let b = a i h in un b.0 b.1 b.2 b.3

  -- what was gathered
  module _ (bs : List Bucket) (n : ℕ) (a : AllPaged R P w bs n) where
    pub paged_gathered : Gathered R P (depth_at bs) (bytes_at bs) (count_at bs) n
    paged_gathered i h = let p = a i h in record { recs = p.recs; is = p.is; fine = p.fine; bytes = p.bytes; count = p.count }

    pub placed_stand : ((i : ℕ) → i < n → ((bucket_at bs i).placed ≡ true) × (depth_at bs i ≤ w)) → AllStand R P (depth_at bs) w n
    placed_stand q i h rs k =
        let p = a i h in
        subst (StandsBehind R (depth_at bs i) i w) (bucket_one (P i) (depth_at bs i) (depth_at bs i) p.recs rs p.is k).1 (MatchBool-at_true _ _ (q i h).0 p.placed)

    pub stand_placed : AllStand R P (depth_at bs) w n → (i : ℕ) → i < n → ((bucket_at bs i).placed ≡ true) × (depth_at bs i ≤ w)
    stand_placed q i h =
        let p = a i h in
        let s = q i h p.recs p.is in
        (told (bucket_at bs i).placed p.placed s, s.0)
      where
        told : {A : Type 0} (b : Bool) → MatchBool b A (A → ⊥) → A → b ≡ true
        told true m s = refl
        told false m s = absurd (m s)

  -- of the first buckets of an array
  pub paged_first : (bs : List Bucket) (n : ℕ) → AllPaged R P w bs n → AllPaged R P w (take n bs) n
  paged_first bs n a i h = subst (Paged R (P i) w i) (sym (get_or-take n bs i no_bucket h)) (a i h)
