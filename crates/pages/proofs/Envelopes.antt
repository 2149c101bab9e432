-- Pages by layout.
use Rattle.std.proofs.Common.{◌≡◌, ℕ, suc, ◌+◌, ◌-◌, ◌*◌, ◌/◌, ◌%◌, ◌<◌, ◌≤◌, Bool, true, false, eqb, List, [], ◌∷◌, ◌++◌, length, get_or, take, drop, set, replicate, Some, None, Option, Ok, Err, Result, Bor, MatchBool, MatchOption, sym, refl, ap, ◌∙◌, subst, arith, length-drop}
use Rattle.std.proofs.lemmas.List.{take_all, append_assoc, length-set, get_or-set_same, get_or-set_other, set-append_left, get_or_append_left}
use Rattle.tree.specs.Maps.{Rec}
use Rattle.layout.specs.Envelope.{be2, envelope, Enveloped, Extended}
use Rattle.layout.specs.declared.NoRoom.{NoRoom}
use Rattle.pages.specs.Bytes.{be4, root_body, Directory, EntrySet}
use Rattle.pages.specs.declared.root.Root.{Root}
use Rattle.pages.specs.Tells.{Tells}
use Rattle.std.proofs.lemmas.Bool.{eqb-true, eqb-false}
use Rattle.pages.specs.Records.{record_bytes, records, bucket_body, BucketIs}
use Rattle.layout.proofs.Envelopes.{envelope_inj}
use Rattle.pages.proofs.Codec.{two_bytes, four_bytes, records_inj}

-- a bucket's page has one local depth and one list of records
pub bucket_one : (p : List ℕ) (d d' : ℕ) (rs ss : List Rec) → BucketIs p d rs → BucketIs p d' ss → (d ≡ d') × (rs ≡ ss)
bucket_one p d d' rs ss a b =
    let e : bucket_body d rs ≡ bucket_body d' ss = envelope_inj _ _ (sym a.is ∙ b.is) in
    (ap (λ (l : List ℕ). get_or l 0 0) e, records_inj rs ss (ap (drop 1) e))

-- ---- the directory

pub directory_told : (p body : List ℕ) → Enveloped p body → MatchBool (eqb (length body) 128) (Directory p) (Directory p → ⊥)
directory_told p body v =
    told (eqb (length body) 128) refl
  where
    told : (b : Bool) → eqb (length body) 128 ≡ b → MatchBool b (Directory p) (Directory p → ⊥)
    told true e = (body, eqb-true (length body) 128 e, v.is)
    told false e = λ d. eqb-false (length body) 128 e (ap length (envelope_inj body d.0 (sym v.is ∙ d.2)) ∙ d.1)

pub directory_if : (o : Option (Bor (List ℕ))) (r : Bool) (p : List ℕ) (Q : Bor (List ℕ) → Type 0) → MatchOption o ((body : List ℕ) → Enveloped p body → ⊥) (λ b. Enveloped p b.now)
    → MatchOption o (r ≡ false) Q → ((b : Bor (List ℕ)) → Q b → r ≡ eqb (length b.now) 128) → Tells r (Directory p)
directory_if None r p Q un e t = subst (λ v. Tells v (Directory p)) (sym e) (λ d. un d.0 (record { fits = omega (arith, d.1); is = d.2 }))
directory_if (Some b) r p Q v e t = subst (λ v. Tells v (Directory p)) (sym (t b e)) (directory_told p b.now v)

-- a byte of the body set
pub set_body : (b : List ℕ) (j v : ℕ) → j < length b → set (envelope b) (3 + j) v ≡ envelope (set b j v)
unfolding envelope
set_body b j v l =
    let e : 3 + j ≡ suc (suc (suc j)) = omega arith in
    let n : length b ≡ length (set b j v) = sym (length-set b j v) in
    ap (λ k. set (1 ∷ (length b / 256) ∷ (length b % 256) ∷ (b ++ replicate (249 - length b) 0)) k v) e
    ∙ ap (λ (q : List ℕ). 1 ∷ (length b / 256) ∷ (length b % 256) ∷ q) (set-append_left b (replicate (249 - length b) 0) j v l)
    ∙ (λ i. 1 ∷ (n i / 256) ∷ (n i % 256) ∷ (set b j v ++ replicate (249 - n i) 0))

pub entry_set : (p : List ℕ) (k v hi lo : ℕ) → length p ≡ 252 → k < 64 → hi ≡ v / 256 → lo ≡ v % 256 → EntrySet p (set (set p (3 + 2 * k) hi) (4 + 2 * k) lo) k v
entry_set p k v hi lo l h eh el =
    let i1 : 3 + 2 * k < length p = omega arith in
    let i2 : 4 + 2 * k < length (set p (3 + 2 * k) hi) = omega (arith, length-set p (3 + 2 * k) hi) in
    let g2 : get_or (set (set p (3 + 2 * k) hi) (4 + 2 * k) lo) (4 + 2 * k) 0 ≡ lo = get_or-set_same (set p (3 + 2 * k) hi) (4 + 2 * k) lo 0 i2 in
    let g1 : get_or (set (set p (3 + 2 * k) hi) (4 + 2 * k) lo) (3 + 2 * k) 0 ≡ hi =
    get_or-set_other (set p (3 + 2 * k) hi) (4 + 2 * k) (3 + 2 * k) lo 0 (λ z. omega arith) ∙ get_or-set_same p (3 + 2 * k) hi 0 i1 in
    let off : (j : ℕ) → (j ≡ 3 + 2 * k → ⊥) → (j ≡ 4 + 2 * k → ⊥) → get_or (set (set p (3 + 2 * k) hi) (4 + 2 * k) lo) j 0 ≡ get_or p j 0 =
    λ j a b. get_or-set_other (set p (3 + 2 * k) hi) (4 + 2 * k) j lo 0 b ∙ get_or-set_other p (3 + 2 * k) j hi 0 a in
    record {
      size = length-set (set p (3 + 2 * k) hi) (4 + 2 * k) lo ∙ length-set p (3 + 2 * k) hi;
      here = omega arith;
      others = λ j ne. omega (arith, off (3 + 2 * j) (λ z. ne (omega arith)) (λ z. omega arith), off (4 + 2 * j) (λ z. omega arith) (λ z. ne (omega arith)));
      layout = λ d.
          let h1 : 2 * k < length d.0 = omega (arith, d.1) in
          let h2 : 1 + 2 * k < length (set d.0 (2 * k) hi) = omega (arith, d.1, length-set d.0 (2 * k) hi) in
          let four : 4 + 2 * k ≡ 3 + (1 + 2 * k) = omega arith in (
            set (set d.0 (2 * k) hi) (1 + 2 * k) lo,
            length-set (set d.0 (2 * k) hi) (1 + 2 * k) lo ∙ length-set d.0 (2 * k) hi ∙ d.1,
            (λ i. set (set (d.2 i) (3 + 2 * k) hi) (four i) lo)
                ∙ ap (λ (q : List ℕ). set q (3 + (1 + 2 * k)) lo) (set_body d.0 (2 * k) hi h1)
                ∙ set_body (set d.0 (2 * k) hi) (1 + 2 * k) lo h2,
          );
    }

-- ---- page 0

pub root_length : (x : Root) → length (root_body x) ≡ 10
unfolding root_body
root_length x = refl

pub root_enveloped : (p : List ℕ) (x : Root) → p ≡ envelope (root_body x) → Enveloped p (root_body x)
root_enveloped p x e = record { fits = omega (arith, root_length x); is = e }

ten : (p : List ℕ) → length p ≡ 10 → p ≡ get_or p 0 0 ∷ get_or p 1 0 ∷ get_or p 2 0 ∷ get_or p 3 0 ∷ get_or p 4 0 ∷ get_or p 5 0 ∷ get_or p 6 0 ∷ get_or p 7 0 ∷ get_or p 8 0 ∷ get_or p 9 0 ∷ []
ten [] z = absurd (omega (arith, z))
ten (a ∷ []) z = absurd (omega (arith, z))
ten (a ∷ b ∷ []) z = absurd (omega (arith, z))
ten (a ∷ b ∷ c ∷ []) z = absurd (omega (arith, z))
ten (a ∷ b ∷ c ∷ d ∷ []) z = absurd (omega (arith, z))
ten (a ∷ b ∷ c ∷ d ∷ e ∷ []) z = absurd (omega (arith, z))
ten (a ∷ b ∷ c ∷ d ∷ e ∷ f ∷ []) z = absurd (omega (arith, z))
ten (a ∷ b ∷ c ∷ d ∷ e ∷ f ∷ g ∷ []) z = absurd (omega (arith, z))
ten (a ∷ b ∷ c ∷ d ∷ e ∷ f ∷ g ∷ h ∷ []) z = absurd (omega (arith, z))
ten (a ∷ b ∷ c ∷ d ∷ e ∷ f ∷ g ∷ h ∷ i ∷ []) z = absurd (omega (arith, z))
ten (a ∷ b ∷ c ∷ d ∷ e ∷ f ∷ g ∷ h ∷ i ∷ j ∷ []) z = refl
ten (a ∷ b ∷ c ∷ d ∷ e ∷ f ∷ g ∷ h ∷ i ∷ j ∷ k ∷ q) z = absurd (omega (arith, z))

pub body_at : (p body : List ℕ) (i : ℕ) → Enveloped p body → i < length body → get_or p (3 + i) 0 ≡ get_or body i 0
unfolding envelope
body_at p body i v l =
    let e : 3 + i ≡ suc (suc (suc i)) = omega arith in
    (λ t. get_or (v.is t) (e t) 0) ∙ get_or_append_left body (replicate (249 - length body) 0) 0 i l

pub root_ten : (p body : List ℕ) (x : Root) → Enveloped p body → p ≡ envelope (root_body x) → length body ≡ 10
root_ten p body x v e = ap length (envelope_inj body (root_body x) (sym v.is ∙ e)) ∙ root_length x

pub root_read : (p body : List ℕ) (m u r : ℕ) → Enveloped p body → length body ≡ 10 → ((i : ℕ) → get_or p i 0 < 256)
    → m ≡ get_or body 2 0 * 256 + get_or body 3 0 → u ≡ get_or body 4 0 * 256 + get_or body 5 0 → r ≡ get_or body 6 0 * 16777216 + get_or body 7 0 * 65536 + get_or body 8 0 * 256 + get_or body 9 0
    → p ≡ envelope (root_body (record { kind = get_or body 0 0; depth = get_or body 1 0; limit = m; used = u; records = r }))
unfolding root_body
root_read p body m u r v l small em eu er =
    let s : (i : ℕ) → i < 10 → get_or body i 0 < 256 = λ i h. omega (arith, small (3 + i), body_at p body i v (omega arith)) in
    let bm : be2 m ≡ get_or body 2 0 ∷ get_or body 3 0 ∷ [] = ap be2 em ∙ two_bytes (get_or body 2 0) (get_or body 3 0) (s 3 (omega arith)) in
    let bu : be2 u ≡ get_or body 4 0 ∷ get_or body 5 0 ∷ [] = ap be2 eu ∙ two_bytes (get_or body 4 0) (get_or body 5 0) (s 5 (omega arith)) in
    let br : be4 r ≡ get_or body 6 0 ∷ get_or body 7 0 ∷ get_or body 8 0 ∷ get_or body 9 0 ∷ [] =
    ap be4 er ∙ four_bytes (get_or body 6 0) (get_or body 7 0) (get_or body 8 0) (get_or body 9 0) (s 7 (omega arith)) (s 8 (omega arith)) (s 9 (omega arith)) in
    v.is ∙ ap envelope (ten body l ∙ sym (λ i. get_or body 0 0 ∷ get_or body 1 0 ∷ (bm i ++ (bu i ++ br i))))

-- what was added, where there was room
pub empty_enveloped : (p : List ℕ) → p ≡ envelope [] → Enveloped p []
empty_enveloped p e = record { fits = omega arith; is = e }

pub root_made : (p : List ℕ) (x : Root) (m u r : List ℕ) → x.limit < 65536 → x.used < 65536 → x.records < 4294967296
    → m ≡ (x.limit / 256 % 256) ∷ (x.limit % 256) ∷ [] → u ≡ (x.used / 256 % 256) ∷ (x.used % 256) ∷ []
    → r ≡ (x.records / 16777216 % 256) ∷ (x.records / 65536 % 256) ∷ (x.records / 256 % 256) ∷ (x.records % 256) ∷ []
    → p ≡ envelope (x.kind ∷ x.depth ∷ get_or m 0 0 ∷ get_or m 1 0 ∷ get_or u 0 0 ∷ get_or u 1 0 ∷ get_or r 0 0 ∷ get_or r 1 0 ∷ get_or r 2 0 ∷ get_or r 3 0 ∷ [])
    → p ≡ envelope (root_body x)
unfolding root_body
root_made p x m u r lm lu lr em eu er v =
    let qm : x.limit / 256 % 256 ≡ x.limit / 256 = omega arith in
    let qu : x.used / 256 % 256 ≡ x.used / 256 = omega arith in
    let qr : x.records / 16777216 % 256 ≡ x.records / 16777216 = omega arith in
    v
    ∙ ap envelope (λ i. x.kind ∷ x.depth ∷ get_or (em i) 0 0 ∷ get_or (em i) 1 0 ∷ get_or (eu i) 0 0 ∷ get_or (eu i) 1 0 ∷ get_or (er i) 0 0 ∷ get_or (er i) 1 0 ∷ get_or (er i) 2 0 ∷ get_or (er i) 3 0 ∷ [])
    ∙ ap envelope (λ i. x.kind ∷ x.depth ∷ qm i ∷ (x.limit % 256) ∷ qu i ∷ (x.used % 256) ∷ qr i ∷ (x.records / 65536 % 256) ∷ (x.records / 256 % 256) ∷ (x.records % 256) ∷ [])

-- ---- buckets

pub is_bucket_body : (p body : List ℕ) (d : ℕ) (rs : List Rec) → Enveloped p body → BucketIs p d rs → body ≡ bucket_body d rs
is_bucket_body p body d rs v b = envelope_inj body (bucket_body d rs) (sym v.is ∙ b.is)

pub bucket_rest : (p body bs : List ℕ) (d : ℕ) (rs : List Rec) → Enveloped p body → bs ≡ take (length body - 1) (drop 1 body) → BucketIs p d rs → bs ≡ records rs
bucket_rest p body bs d rs v e b =
    e ∙ take_all (length body - 1) (drop 1 body) (omega (arith, length-drop 1 body)) ∙ ap (drop 1) (is_bucket_body p body d rs v b)

-- ---- a record added

pub head_made : (x : Rec) (l t : List ℕ) → 8 + length x.key + length x.value < 65536 → x.last < 4294967296
    → l ≡ ((8 + length x.key + length x.value) / 256 % 256) ∷ ((8 + length x.key + length x.value) % 256) ∷ []
    → t ≡ (x.last / 16777216 % 256) ∷ (x.last / 65536 % 256) ∷ (x.last / 256 % 256) ∷ (x.last % 256) ∷ []
    → (get_or l 0 0 ∷ get_or l 1 0 ∷ x.class ∷ get_or t 0 0 ∷ get_or t 1 0 ∷ get_or t 2 0 ∷ get_or t 3 0 ∷ length x.key ∷ []) ++ (x.key ++ x.value) ≡ record_bytes x
unfolding record_bytes
head_made x l t sl st el et =
    let ql : (8 + length x.key + length x.value) / 256 % 256 ≡ (8 + length x.key + length x.value) / 256 = omega arith in
    let qt : x.last / 16777216 % 256 ≡ x.last / 16777216 = omega arith in
    (λ i. get_or (el i) 0 0 ∷ get_or (el i) 1 0 ∷ x.class ∷ get_or (et i) 0 0 ∷ get_or (et i) 1 0 ∷ get_or (et i) 2 0 ∷ get_or (et i) 3 0 ∷ length x.key ∷ (x.key ++ x.value))
    ∙ (λ i. ql i ∷ ((8 + length x.key + length x.value) % 256) ∷ x.class ∷ qt i ∷ (x.last / 65536 % 256) ∷ (x.last / 256 % 256) ∷ (x.last % 256) ∷ length x.key ∷ (x.key ++ x.value))

add_made : (page body head key value : List ℕ) (x : Rec) → head ++ (key ++ value) ≡ record_bytes x → Enveloped page (((body ++ head) ++ key) ++ value) → Enveloped page (body ++ record_bytes x)
add_made page body head key value x e v =
    let a : ((body ++ head) ++ key) ++ value ≡ body ++ record_bytes x =
    append_assoc (body ++ head) key value ∙ append_assoc body head (key ++ value) ∙ ap (λ (q : List ℕ). body ++ q) e in
    record { fits = subst (λ (q : List ℕ). length q ≤ 249) a v.fits; is = v.is ∙ ap envelope a }

pub last_added : (page body head key value : List ℕ) (x : Rec) (r : Result (Unit {0}) NoRoom) → head ++ (key ++ value) ≡ record_bytes x → length ((body ++ head) ++ key) + length value ≤ 249
    → Extended page ((body ++ head) ++ key) value r → Extended page body (record_bytes x) r
last_added page body head key value x (Ok _) e h v = add_made page body head key value x e v
last_added page body head key value x (Err _) e h v = absurd (omega (arith, v.0))
