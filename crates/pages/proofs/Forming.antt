-- What the pages of an image say, and when it is well formed.
use Rattle.std.proofs.Common.{◌≡◌, ℕ, ◌+◌, ◌^◌, ◌<◌, ◌≤◌, List, [], ◌∷◌, length, sum_by, sym, refl, ap, ◌∙◌, subst, arith, pow_mono}
use Rattle.std.proofs.lemmas.List.Sums.{sum_by-cons}
use Rattle.device.specs.Meaning.{State}
use Rattle.keys.specs.Rule.{Rule, Lawful}
use Rattle.tree.specs.Prefix.{pre}
use Rattle.tree.specs.Trees.{Falls, number, depth}
use Rattle.tree.specs.Members.{Same}
use Rattle.tree.specs.Maps.{Rec, Sound, size}
use Rattle.tree.specs.Loads.{hashed, loads}
use Rattle.tree.specs.Images.{Pages}
use Rattle.tree.proofs.Prefixes.{pre_below}
use Rattle.tree.proofs.Sets.{same_sums, same_sym}
use Rattle.tree.proofs.Mapping.{all_in, sound_once, same_loads}
use Rattle.tree.proofs.Imaging.{image_has, image_in}
use Rattle.tree.proofs.Stands.{found}
use Rattle.pages.specs.declared.root.Root.{Root}
use Rattle.layout.specs.Envelope.{envelope}
use Rattle.pages.specs.Bytes.{root_body}
use Rattle.pages.specs.Records.{BucketIs}
use Rattle.pages.specs.Images.{shows, root, entry, named, wide, W1, W2, W3, W4, W5, Placed, ReadAs, map_of, Right, WellFormed}
use Rattle.pages.specs.Laws.{Says, Numbers, Fits, FormedFrom, FormedTo}
use Rattle.pages.proofs.Envelopes.{bucket_one}
use Rattle.pages.proofs.Checking.{root_is}
use Rattle.pages.proofs.Readings.{some_reading, all_fine, pages_five, held, map_sound, one_map}
use Rattle.pages.proofs.Deciding.{right_any}

-- ---- equal maps have as many records

ones : (xs : List Rec) → sum_by (λ _. 1) xs ≡ length xs
ones [] = refl
ones (x ∷ xs) = sum_by-cons (λ _. 1) x xs ∙ omega (arith, ones xs)

same_length : (R : Rule) → Lawful R → (m m' : List Rec) → Sound R m → Sound R m' → Same m m' → length m ≡ length m'
same_length R law m m' s s' e = sym (ones m) ∙ same_sums (λ _. 1) m m' (sound_once R law m s.valid s.apart) (sound_once R law m' s'.valid s'.apart) e ∙ ones m'

-- ---- from what the pages say

module _ (R : Rule) (law : Lawful R) (n : ℕ) (e : ℕ → State) (x : Root) (E d : ℕ → ℕ) (recs : ℕ → List Rec) (m : List Rec) (s : Says e x E d recs) (nu : Numbers R n x m) (ft : Fits R x E d recs m) where
  rx : root e ≡ x
  rx = root_is (shows (e 0)) x s.zeroth

  dep : (root e).depth ≡ x.depth
  dep = ap (λ (y : Root). y.depth) rx

  to_x : (i : ℕ) → i < wide e → i < 2 ^ x.depth
  to_x i h = subst (λ v. i < 2 ^ v) dep h

  small : 2 ^ x.depth ≤ 2 ^ 8
  small = pow_mono nu.deep

  deep : (root e).depth ≤ 8
  deep = subst (λ v. v ≤ 8) (sym dep) nu.deep

  ent : (i : ℕ) → i < wide e → entry e i ≡ E i
  ent i h = s.entries i (omega (arith, to_x i h, small))

  first : W1 R n e
  first = record {
    layout = s.zeroth ∙ ap (λ (y : Root). envelope (root_body y)) (sym rx);
    kind = subst (λ (y : Root). y.kind ≡ R.kind) (sym rx) nu.kind;
    deep = deep;
    least = subst (λ (y : Root). 1 ≤ y.limit) (sym rx) nu.least;
    most = subst (λ (y : Root). y.limit ≤ 256) (sym rx) nu.most;
    room = subst (λ (y : Root). y.limit + 5 ≤ n) (sym rx) nu.room;
  }

  second : W2 e
  second = record { layout = s.layout; unused = λ i h l. s.entries i l ∙ ft.unused i (subst (λ v. 2 ^ v ≤ i) dep h) l }

  third : W3 e
  third i h =
      let q = ft.used i (to_x i h) in
      let l : (root e).limit ≡ x.limit = ap (λ (y : Root). y.limit) rx in
      (omega (arith, q.0, ent i h), omega (arith, q.1, ent i h, l))

  reads : ReadAs e d recs
  reads i h = subst (λ k. BucketIs (shows (e k)) (d i) (recs i)) (sym (ent i h)) (s.buckets i (to_x i h))

  fourth : W4 R e
  fourth i h = (d i, recs i, reads i h, ft.fine i (to_x i h))

  placed : (i : ℕ) → i < wide e → Placed R e i (d i) (recs i)
  placed i h = record {
    short = subst (λ v. d i ≤ v) (sym dep) (ft.holds.short i (to_x i h));
    only = λ j l q. subst (λ v. pre v j (d i) ≡ pre v i (d i)) (sym dep) (ft.only i j (to_x i h) (to_x j l) (sym (ent j l) ∙ q ∙ ent i h));
    every = λ j l q. ent j l ∙ ft.every i j (to_x i h) (to_x j l) (subst (λ v. pre v j (d i) ≡ pre v i (d i)) dep q) ∙ sym (ent i h);
    hashes = all_in (λ y. pre 32 (hashed R y) (d i) ≡ pre (root e).depth i (d i)) (recs i) (λ y k. ((ft.holds.has i (to_x i h) y).0 k).1 ∙ ap (λ v. pre v i (d i)) (sym dep));
    apart = ft.apart i (to_x i h);
  }

  fifth : W5 R e
  fifth i d' rs h b =
      let o = bucket_one (named e i) (d i) d' (recs i) rs (reads i h) b in
      subst (λ v. Placed R e i v rs) o.0 (subst (λ v. Placed R e i (d i) v) o.1 (placed i h))

  pages : Pages (hashed R) (root e).depth d recs
  pages = pages_five R e fifth d recs reads

  narrow : (root e).depth ≤ 32
  narrow = omega (arith, deep)

  same : Same m (map_of e d recs)
  same y = (
    (λ k.
        let f = (found R law m x.depth d recs ft.holds (omega (arith, nu.deep)) y).0 k in
        let l : pre 32 (hashed R y) x.depth < wide e = subst (λ v. pre 32 (hashed R y) x.depth < 2 ^ v) (sym dep) (pre_below 32 (hashed R y) x.depth (omega (arith, nu.deep)) (law.bits y.key)) in
        image_has (hashed R) size (root e).depth narrow d recs pages y (pre 32 (hashed R y) x.depth) l f),
    λ k. let q = image_in (hashed R) size (root e).depth narrow d recs pages y k in ((ft.holds.has q.0 (to_x q.0 q.1) y).0 q.2).0,
  )

  sound : Sound R (map_of e d recs)
  sound = map_sound R law e deep fourth fifth d recs reads

  loads_same : loads R m ≡ loads R (map_of e d recs)
  loads_same = same_loads R law m (map_of e d recs) ft.map sound same

  right : Right R e d recs
  right = record {
    falls = λ i h. subst (λ L. Falls L (root e).depth i (d i)) loads_same (subst (λ v. Falls (loads R m) v i (d i)) (sym dep) (ft.holds.falls i (to_x i h)));
    depth = dep ∙ nu.depth ∙ ap depth loads_same;
    used = ap (λ (y : Root). y.used) rx ∙ nu.used ∙ ap number loads_same;
    records = ap (λ (y : Root). y.records) rx ∙ nu.records ∙ same_length R law m (map_of e d recs) ft.map sound same;
  }

  pub formed : WellFormed R n e m
  formed = record {
    met = record { first = first; second = second; third = third; fourth = fourth; fifth = fifth; sixth = right_any R e d recs reads right };
    map = ft.map;
    holds = λ d' recs' k. subst (Same m) (one_map e d d' recs recs' reads k) same;
  }

pub formed_from : (R : Rule) → Lawful R → FormedFrom R
formed_from R law n e x E d recs m s nu ft = formed R law n e x E d recs m s nu ft

-- ---- to what they say

pub formed_to : (R : Rule) → Lawful R → FormedTo R
formed_to R law n e m f =
    let met = f.met in
    let g = some_reading R e met.fourth in
    let d = g.0 in
    let recs = g.1 in
    let r = g.2 in
    let w6 = met.sixth d recs r in
    let q = f.holds d recs r in
    let back = same_sym m (map_of e d recs) q in
    let sound = map_sound R law e met.first.deep met.fourth met.fifth d recs r in
    let l : loads R (map_of e d recs) ≡ loads R m = same_loads R law (map_of e d recs) m sound f.map back in
    let h = held R n e met d recs r in (
      d,
      recs,
      record { zeroth = met.first.layout; layout = met.second.layout; entries = λ i b. refl; buckets = r },
      record {
        kind = met.first.kind;
        deep = met.first.deep;
        least = met.first.least;
        most = met.first.most;
        room = met.first.room;
        depth = w6.depth ∙ ap depth l;
        used = w6.used ∙ ap number l;
        records = w6.records ∙ same_length R law (map_of e d recs) m sound f.map back;
      },
      record {
        unused = met.second.unused;
        used = met.third;
        only = λ i j a b k. (met.fifth i (d i) (recs i) a (r i a)).only j b k;
        every = λ i j a b k. (met.fifth i (d i) (recs i) a (r i a)).every j b k;
        fine = all_fine R e met.fourth d recs r;
        apart = λ i a. (met.fifth i (d i) (recs i) a (r i a)).apart;
        map = f.map;
        holds = record {
          short = h.short;
          falls = λ i b. subst (λ L. Falls L (root e).depth i (d i)) l (h.falls i b);
          has = λ i b x. let k = h.has i b x in ((λ a. ((q x).1 (k.0 a).0, (k.0 a).1)), λ a z. k.1 ((q x).0 a) z);
        };
      },
    )
