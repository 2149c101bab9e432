-- The image of an empty store is well formed.
use Rattle.keys.specs.Rule.{Rule}
use Rattle.std.proofs.Common.{◌≡◌, ℕ, zero, suc, ◌+◌, ◌-◌, ◌*◌, ◌/◌, ◌%◌, ◌^◌, ◌<◌, ◌≤◌, Bool, true, false, cond, eqb, List, [], ◌∷◌, ◌++◌, length, get_or, replicate, sym, refl, ap, ◌∙◌, subst, ⊎_elim, arith}
use Rattle.std.proofs.lemmas.List.{get_or-replicate}
use Rattle.std.proofs.lemmas.Bool.{cases_lt, cond-false, ne_eqb}
use Rattle.device.specs.Meaning.{State, bytes}
use Rattle.tree.specs.Prefix.{pre}
use Rattle.tree.specs.Trees.{buckets, longest, number, depth}
use Rattle.tree.specs.Members.{Same}
use Rattle.tree.specs.Maps.{Rec, size}
use Rattle.tree.specs.Loads.{loads}
use Rattle.tree.specs.Images.{gathered, at_first}
use Rattle.tree.proofs.Sets.{same_refl}
use Rattle.tree.proofs.Loading.{load_nil}
use Rattle.tree.proofs.Listing.{tree_leaf}
use Rattle.pages.specs.declared.root.Root.{Root}
use Rattle.layout.specs.Envelope.{envelope, Enveloped}
use Rattle.pages.specs.Bytes.{root_body, entry_at}
use Rattle.pages.specs.Records.{BucketIs}
use Rattle.pages.specs.Images.{shows, root, entry, named, wide, W1, W2, W3, W5, W6, Placed, ReadAs, map_of, WellFormed}
use Rattle.pages.specs.Formats.{empty_root, Empty}
use Rattle.pages.specs.Laws.{EmptyFormed}
use Rattle.pages.proofs.Envelopes.{bucket_one, body_at}
use Rattle.pages.proofs.Readings.{one_map}
use Rattle.pages.proofs.Checking.{one_from}

gathered_empty : (f : ℕ → List Rec) (n : ℕ) → ((j : ℕ) → f j ≡ []) → gathered f n ≡ []
unfolding gathered
gathered_empty f zero a = refl
gathered_empty f (suc n) a = λ i. gathered_empty f n a i ++ a n i

cond_nil : (b : Bool) → cond {A = List Rec} b [] [] ≡ []
cond_nil true = refl
cond_nil false = refl

entry_in : (p body : List ℕ) (k : ℕ) → length body ≡ 128 → p ≡ envelope body → k < 64 → entry_at p k ≡ get_or body (2 * k) 0 * 256 + get_or body (2 * k + 1) 0
entry_in p body k l e h =
    let v : Enveloped p body = record { fits = omega arith; is = e } in
    let four : 4 + 2 * k ≡ 3 + (2 * k + 1) = omega arith in
    (λ i. body_at p body (2 * k) v (omega arith) i * 256 + (ap (λ j. get_or p j 0) four ∙ body_at p body (2 * k + 1) v (omega arith)) i)

abbrev blank : List ℕ
blank = replicate 128 0

abbrev begun : List ℕ
begun = 0 ∷ 5 ∷ replicate 126 0

zero_at : (m : ℕ) → m < 128 → get_or blank m 0 ≡ 0
zero_at m h = get_or-replicate 128 m 0 0 h

rest_at : (m : ℕ) → 2 ≤ m → m < 128 → get_or begun m 0 ≡ 0
rest_at m l h =
    let e : m ≡ suc (suc (m - 2)) = omega arith in
    ap (λ j. get_or begun j 0) e ∙ get_or-replicate 126 (m - 2) 0 0 (omega arith)

module _ (K : Rule) (n limit : ℕ) (e : ℕ → State) (low : 1 ≤ limit) (high : limit ≤ 256) (room : limit + 5 ≤ n) (m : Empty K.kind limit e) where
  others : (j : ℕ) → 2 ≤ j → j < 5 → e j ≡ bytes (envelope blank)
  others j l h = m j (omega arith) ∙ ap (λ (b : List ℕ). bytes (envelope b))
      (cond-false (eqb j 0) _ _ (ne_eqb j 0 (λ z. omega arith)) ∙ cond-false (eqb j 1) _ _ (ne_eqb j 1 (λ z. omega arith)) ∙ cond-false (eqb j 5) _ _ (ne_eqb j 5 (λ z. omega arith)))

  firsts : W1 K n e × (root e ≡ empty_root K.kind limit)
  firsts = one_from K n e (envelope (root_body (empty_root K.kind limit))) (empty_root K.kind limit) K.kind n refl refl (m 0 (omega arith)) refl (refl, omega arith, low, high, room)

  dep : (root e).depth ≡ 0
  dep = ap (λ (y : Root). y.depth) firsts.1

  only_zero : (i : ℕ) → i < wide e → i ≡ 0
  only_zero i h = let q : i < 2 ^ 0 = subst (λ v. i < 2 ^ v) dep h in omega arith

  entry_zero : entry e 0 ≡ 5
  entry_zero = entry_in (shows (e 1)) begun 0 refl (ap shows (m 1 (omega arith))) (omega arith)

  entry_rest : (i : ℕ) → 1 ≤ i → i < 256 → entry e i ≡ 0
  entry_rest i l h =
      ⊎_elim
      (λ (lt : i < 64).
      let q : i / 64 ≡ 0 = omega arith in
      let r : i % 64 ≡ i = omega arith in
      (λ t. entry_at (shows (e (1 + q t))) (r t)) ∙ entry_in (shows (e 1)) begun i refl (ap shows (m 1 (omega arith))) lt
      ∙ (λ t. rest_at (2 * i) (omega arith) (omega arith) t * 256 + rest_at (2 * i + 1) (omega arith) (omega arith) t))
      (λ (ge : 64 ≤ i).
      entry_in (shows (e (1 + i / 64))) blank (i % 64) refl (ap shows (others (1 + i / 64) (omega arith) (omega arith))) (omega arith)
      ∙ (λ t. zero_at (2 * (i % 64)) (omega arith) t * 256 + zero_at (2 * (i % 64) + 1) (omega arith) t))
      (cases_lt i 64)

  bucket_here : (i : ℕ) → i < wide e → BucketIs (named e i) 0 []
  bucket_here i h =
      let q : entry e i ≡ 5 = ap (entry e) (only_zero i h) ∙ entry_zero in
      record { fits = omega arith; is = ap (λ k. shows (e k)) q ∙ ap shows (m 5 (omega arith)) }

  reading : ReadAs e (λ _. 0) (λ _. [])
  reading = bucket_here

  no_records : (d : ℕ → ℕ) (recs : ℕ → List Rec) → ReadAs e d recs → map_of e d recs ≡ []
  no_records d recs r =
      one_map e d (λ _. 0) recs (λ _. []) r reading
      ∙ gathered_empty (at_first (root e).depth (λ _. 0) (λ _. [])) (2 ^ (root e).depth) (λ j. cond_nil (eqb (j % 2 ^ ((root e).depth - 0)) 0))

  light : (k p : ℕ) → loads K [] k p ≤ 248
  light k p = omega (arith, load_nil (λ (x : Rec). K.hash x.key) size k p)

  one_bucket : buckets (loads K []) ≡ (0, 0) ∷ []
  one_bucket = tree_leaf (loads K []) 8 0 0 (light 0 0)

  sixth : W6 K e
  unfolding longest
  sixth d recs r =
      let z = no_records d recs r in
      record {
        falls = λ i h.
            let o = bucket_one (named e i) (d i) 0 (recs i) [] (r i h) (bucket_here i h) in
            (omega (arith, ap (λ v. loads K v (d i) (pre (root e).depth i (d i))) z, light (d i) (pre (root e).depth i (d i))), λ k l. absurd (omega (arith, o.0)));
        depth = dep ∙ sym (ap (λ v. depth (loads K v)) z ∙ ap longest one_bucket);
        used = ap (λ (y : Root). y.used) firsts.1 ∙ sym (ap (λ v. number (loads K v)) z ∙ ap length one_bucket);
        records = ap (λ (y : Root). y.records) firsts.1 ∙ sym (ap length z);
      }

  fifth : W5 K e
  fifth i d rs h b =
      let o = bucket_one (named e i) 0 d [] rs (bucket_here i h) b in
      let p : Placed K e i 0 [] =
      record {
        short = omega arith;
        only = λ j l q. ap (λ v. pre (root e).depth v 0) (only_zero j l ∙ sym (only_zero i h));
        every = λ j l q. ap (entry e) (only_zero j l ∙ sym (only_zero i h));
        hashes = tt;
        apart = tt;
      } in
      subst (λ v. Placed K e i v rs) o.0 (subst (λ v. Placed K e i 0 v) o.1 p)

  second : W2 e
  second =
      record {
        layout = λ j h.
            ⊎_elim
            (λ (lt : j < 1). let q : 1 + j ≡ 1 = omega arith in (begun, refl, ap (λ k. shows (e k)) q ∙ ap shows (m 1 (omega arith))))
            (λ (ge : 1 ≤ j). (blank, refl, ap shows (others (1 + j) (omega arith) (omega arith))))
            (cases_lt j 1);
        unused = λ i h l. entry_rest i (let q : 2 ^ 0 ≤ i = subst (λ v. 2 ^ v ≤ i) dep h in omega arith) l;
      }

  third : W3 e
  third i h =
      let q : entry e i ≡ 5 = ap (entry e) (only_zero i h) ∙ entry_zero in
      let t : (root e).limit ≡ limit = ap (λ (y : Root). y.limit) firsts.1 in
      (omega (arith, q), omega (arith, q, t))

  pub formed : WellFormed K n e []
  formed =
      record {
        met = record { first = firsts.0; second = second; third = third; fourth = λ i h. (0, [], bucket_here i h, tt); fifth = fifth; sixth = sixth };
        map = record { valid = tt; apart = tt };
        holds = λ d recs r. subst (Same []) (sym (no_records d recs r)) (same_refl []);
      }

pub empty_formed : (K : Rule) → EmptyFormed K
empty_formed K n limit e low high room m = formed K n limit e low high room m
