-- What a check of an image tests is what its last two conditions say.
use Rattle.std.proofs.Common.{◌≡◌, ℕ, zero, suc, ◌+◌, ◌-◌, ◌%◌, ◌^◌, ◌<◌, ◌≤◌, Bool, true, false, cond, eqb, List, [], length, sum_by, sym, refl, ap, ◌∙◌, subst, ap₂, inl, inr, ⊎_elim, add-one, arith, length-append}
use Rattle.std.proofs.lemmas.Bool.{cond-true, cond-false, eq-eqb, ne_eqb}
use Rattle.device.specs.Meaning.{State}
use Rattle.tree.specs.Prefix.{pre, sib}
use Rattle.tree.specs.Trees.{Falls, number, depth}
use Rattle.tree.specs.Maps.{Rec, size}
use Rattle.keys.specs.Rule.{Rule}
use Rattle.tree.specs.Loads.{loads}
use Rattle.tree.specs.Images.{gathered, at_first, BytesTested}
use Rattle.tree.proofs.Prefixes.{root_below}
use Rattle.tree.proofs.Loading.{load_splits}
use Rattle.tree.proofs.Partition.{falls_once, bucket_itself}
use Rattle.tree.proofs.Listing.{listed_bucket}
use Rattle.tree.proofs.Recovering.{bytes_tree, tree_bytes, depth_is, depth_attained}
use Rattle.pages.specs.Records.{records}
use Rattle.pages.specs.Images.{root, entry, named, wide, W5, W6, Placed, ReadAs, map_of, Right}
use Rattle.pages.specs.Surveys.{EntriesPlaced, SiblingsFull, counted, RecordsPlaced, NumberRight, TreeTested}
use Rattle.pages.proofs.Codec.{records_length}
use Rattle.pages.proofs.Envelopes.{bucket_one}
use Rattle.pages.proofs.Readings.{one_map, pages_five}

-- ---- the count of the records

pub counted_none : (D C : ℕ → ℕ) (w : ℕ) → counted D C w 0 ≡ 0
unfolding counted
counted_none D C w = refl

pub counted_first : (D C : ℕ → ℕ) (w n : ℕ) → n % 2 ^ (w - D n) ≡ 0 → counted D C w (n + 1) ≡ counted D C w n + C n
unfolding counted
counted_first D C w n e = ap (counted D C w) (add-one n) ∙ ap (λ k. counted D C w n + k) (cond-true _ (C n) 0 (eq-eqb _ _ e))

pub counted_other : (D C : ℕ → ℕ) (w n : ℕ) → (n % 2 ^ (w - D n) ≡ 0 → ⊥) → counted D C w (n + 1) ≡ counted D C w n
unfolding counted
counted_other D C w n e = ap (counted D C w) (add-one n) ∙ ap (λ k. counted D C w n + k) (cond-false _ (C n) 0 (ne_eqb _ _ e)) ∙ (omega arith)

length_cond : (b : Bool) (xs : List Rec) (c : ℕ) → c ≡ length xs → cond b c 0 ≡ length (cond b xs [])
length_cond true xs c e = e
length_cond false xs c e = refl

pub counted_length : (D C : ℕ → ℕ) (w : ℕ) (recs : ℕ → List Rec) (n : ℕ) → ((i : ℕ) → i < n → C i ≡ length (recs i)) → counted D C w n ≡ length (gathered (at_first w D recs) n)
unfolding counted gathered
counted_length D C w recs zero h = refl
counted_length D C w recs (suc n) h =
    ap₂ (λ a b. a + b) (counted_length D C w recs n (λ i l. h i (omega arith))) (length_cond (eqb (n % 2 ^ (w - D n)) 0) (recs n) (C n) (h n (omega arith)))
    ∙ sym (length-append (gathered (at_first w D recs) n) (at_first w D recs n))

-- ---- what is right of one reading is right of any

pub right_any : (K : Rule) (e : ℕ → State) (D : ℕ → ℕ) (recs : ℕ → List Rec) → ReadAs e D recs → Right K e D recs → W6 K e
right_any K e D recs r R d rs k =
    let m : map_of e D recs ≡ map_of e d rs = one_map e D d recs rs r k in
    record {
      falls = λ i h.
          let o = bucket_one (named e i) (D i) (d i) (recs i) (rs i) (r i h) (k i h) in
          subst (λ v. Falls (loads K (map_of e d rs)) (root e).depth i v) o.0 (subst (λ v. Falls (loads K v) (root e).depth i (D i)) m (R.falls i h));
      depth = R.depth ∙ ap (λ v. depth (loads K v)) m;
      used = R.used ∙ ap (λ v. number (loads K v)) m;
      records = R.records ∙ ap length m;
    }

-- ---- the fifth condition

-- what was gathered of each entry of an image: the page it names, that page's local depth, bytes and number of records
pub record Surveyed (e : ℕ → State) (E D S C : ℕ → ℕ) (recs : ℕ → List Rec) : Type 0 where
  pub entries : (i : ℕ) → i < wide e → E i ≡ entry e i
  pub reads : ReadAs e D recs
  pub sizes : (i : ℕ) → i < wide e → S i ≡ length (records (recs i))
  pub counts : (i : ℕ) → i < wide e → C i ≡ length (recs i)

module _ (K : Rule) (e : ℕ → State) (E D S C : ℕ → ℕ) (recs : ℕ → List Rec) (s : Surveyed e E D S C recs) where
  pub five_from : EntriesPlaced E D (root e).depth → ((i : ℕ) → i < wide e → RecordsPlaced K (D i) (pre (root e).depth i (D i)) (recs i)) → W5 K e
  five_from a b i d rs h k =
      let o = bucket_one (named e i) (D i) d (recs i) rs (s.reads i h) k in
      let p : Placed K e i (D i) (recs i) =
      record {
        short = (a i h).0;
        only = λ j l q. ((a i h).1 j l).0 (s.entries j l ∙ q ∙ sym (s.entries i h));
        every = λ j l q. sym (s.entries j l) ∙ ((a i h).1 j l).1 q ∙ s.entries i h;
        hashes = (b i h).0;
        apart = (b i h).1;
      } in
      subst (λ v. Placed K e i v rs) o.0 (subst (λ v. Placed K e i (D i) v) o.1 p)

  pub five_entries : W5 K e → EntriesPlaced E D (root e).depth
  five_entries w i h =
      let p = w i (D i) (recs i) h (s.reads i h) in
      (p.short, λ j l. ((λ q. p.only j l (sym (s.entries j l) ∙ q ∙ s.entries i h)), λ q. s.entries j l ∙ p.every j l q ∙ sym (s.entries i h)))

  -- ---- the sixth

  module _ (deep : (root e).depth ≤ 8) (w5 : W5 K e) where
    weighs : (i : ℕ) → i < wide e → S i ≡ sum_by size (recs i)
    weighs i h = s.sizes i h ∙ records_length (recs i)

    bytes_tested : SiblingsFull D S (root e).depth → BytesTested size (root e).depth D recs
    bytes_tested f =
        record {
          fits = λ i h. omega (arith, (s.reads i h).fits, records_length (recs i));
          full = λ i j n h l z y q.
              omega (arith, weighs i h, weighs j l, f i h j l (y ∙ sym z) (omega arith) (subst (λ v. pre (root e).depth j v ≡ sib (pre (root e).depth i v)) (sym z) q));
        }

    siblings : BytesTested size (root e).depth D recs → SiblingsFull D S (root e).depth
    siblings t i h j l y z q =
        let n : D i ≡ suc (D i - 1) = omega arith in
        omega (arith, weighs i h, weighs j l, t.full i j (D i - 1) h l n (y ∙ n) (subst (λ v. pre (root e).depth j v ≡ sib (pre (root e).depth i v)) n q))

    right_from : (r : ℕ) → NumberRight D (root e).depth r → TreeTested D S C (root e) r → Right K e D recs
    right_from r num t =
        let P = pages_five K e w5 D recs s.reads in
        let L = loads K (map_of e D recs) in
        let sp = load_splits (λ (x : Rec). K.hash x.key) size (map_of e D recs) in
        let f = bytes_tree (λ (x : Rec). K.hash x.key) size (root e).depth (omega arith) D recs P (bytes_tested t.siblings) in
        record {
          falls = f;
          depth = sym (depth_is L sp (root e).depth deep D P.parts.short f t.deepest);
          used = t.used ∙ num L sp f;
          records = t.records ∙ counted_length D C (root e).depth recs (wide e) s.counts;
        }

    pub six_from : (r : ℕ) → NumberRight D (root e).depth r → TreeTested D S C (root e) r → W6 K e
    six_from r num t = right_any K e D recs s.reads (right_from r num t)

    pub six_to : (r : ℕ) → NumberRight D (root e).depth r → W6 K e → TreeTested D S C (root e) r
    six_to r num w6 =
        let P = pages_five K e w5 D recs s.reads in
        let L = loads K (map_of e D recs) in
        let sp = load_splits (λ (x : Rec). K.hash x.key) size (map_of e D recs) in
        let R = w6 D recs s.reads in
        record {
          siblings = siblings (tree_bytes (λ (x : Rec). K.hash x.key) size (root e).depth (omega arith) D recs P R.falls);
          deepest = ⊎_elim inl
              (λ q. let b = q.0 in
              let g = listed_bucket L b q.1 in
              let lt : b.1 < 2 ^ (root e).depth = subst (λ v. b.1 < 2 ^ v) q.2 (root_below b.0 b.1 g.1) in
              let fl : Falls L (root e).depth b.1 (root e).depth = subst (λ v. Falls L v b.1 v) q.2 (bucket_itself L b.0 b.1 g.2) in
              inr (b.1, lt, falls_once L (root e).depth b.1 (D b.1) (root e).depth (R.falls b.1 lt) fl))
              (depth_attained L sp (root e).depth deep D P.parts.short R.falls (sym R.depth));
          used = R.used ∙ sym (num L sp R.falls);
          records = R.records ∙ sym (counted_length D C (root e).depth recs (wide e) s.counts);
        }
