-- A walk that tests where records stand.
use Rattle.std.proofs.Common.{◌≡◌, ℕ, false, List, ◌∷◌, ◌++◌, sym, refl, subst, inl}
use Rattle.std.specs.List.{AllByRecursion}
use Rattle.tree.specs.Prefix.{pre}
use Rattle.tree.specs.Maps.{Rec}
use Rattle.keys.specs.Rule.{Rule}
use Rattle.pages.specs.Records.{record_bytes, records, FoundAt}
use Rattle.pages.specs.Surveys.{RecordsPlaced}
use Rattle.pages.proofs.Walks.{one_more, no_more}
use Rattle.tree.proofs.Mapping.{all_of}
use Rattle.tree.specs.Members.{In}
use Rattle.tree.proofs.Sets.{in_right}
use Rattle.std.proofs.lemmas.Bool.{both_ways}

module _ (R : Rule) (d p : ℕ) where
  -- what is left is right if and only if the whole is
  abbrev pub Placing : List ℕ → List ℕ → Type 0
  Placing bs left = (rs : List Rec) → bs ≡ records rs
      → (more : List Rec) × (left ≡ records more) × (RecordsPlaced R d p more → RecordsPlaced R d p rs) × (RecordsPlaced R d p rs → RecordsPlaced R d p more)

  -- the record that comes next
  pub placing_next : (bs left after : List ℕ) (x : Rec) → left ≡ record_bytes x ++ after → Placing bs left → (rs : List Rec) → bs ≡ records rs
      → (rest : List Rec) × (after ≡ records rest) × (RecordsPlaced R d p (x ∷ rest) → RecordsPlaced R d p rs) × (RecordsPlaced R d p rs → RecordsPlaced R d p (x ∷ rest))
  placing_next bs left after x e c rs r =
      let k = c rs r in
      let o = one_more left after x k.0 e k.1 in
      (o.0, o.2, (λ a. k.2 (subst (RecordsPlaced R d p) (sym o.1) a)), λ a. subst (RecordsPlaced R d p) o.1 (k.3 a))

  pub placing_more : (bs left after : List ℕ) (x : Rec) → left ≡ record_bytes x ++ after → pre 32 (R.hash x.key) d ≡ p
      → ((rest : List Rec) → after ≡ records rest → AllByRecursion (λ s. R.same x.key s.key ≡ false) rest) → Placing bs left → Placing bs after
  placing_more bs left after x e h a c = λ rs r.
      let k = placing_next bs left after x e c rs r in
      (k.0, k.1, (λ q. k.2 ((h, q.0), (a k.0 k.1, q.1))), λ q. let w = k.3 q in (w.0.1, w.1.1))

  pub placing_all : (bs left : List ℕ) → ((x : Rec) (rest : List ℕ) → left ≡ record_bytes x ++ rest → ⊥) → Placing bs left → (rs : List Rec) → bs ≡ records rs → RecordsPlaced R d p rs
  placing_all bs left un c rs r =
      let k = c rs r in
      k.2 (subst (RecordsPlaced R d p) (sym (no_more left k.0 un k.1)) (tt, tt))

  pub placing_wrong : (bs left after : List ℕ) (x : Rec) → left ≡ record_bytes x ++ after → (pre 32 (R.hash x.key) d ≡ p → ⊥) → Placing bs left → (rs : List Rec) → bs ≡ records rs → RecordsPlaced R d p rs → ⊥
  placing_wrong bs left after x e ne c rs r q = ne ((placing_next bs left after x e c rs r).3 q).0.0

  pub placing_twice : (bs left after : List ℕ) (x y : Rec) (n : ℕ) → left ≡ record_bytes x ++ after → ((rest : List Rec) → after ≡ records rest → FoundAt R.same x.key rest n y)
      → Placing bs left → (rs : List Rec) → bs ≡ records rs → RecordsPlaced R d p rs → ⊥
  placing_twice bs left after x y n e f c rs r q =
      let k = placing_next bs left after x e c rs r in
      let w = f k.0 k.1 in
      let i : In y (w.before ++ (y ∷ w.after)) = in_right y w.before (y ∷ w.after) (inl refl) in
      both_ways (R.same x.key y.key) (all_of (λ s. R.same x.key s.key ≡ false) y k.0 (k.3 q).1.0 (subst (In y) (sym w.split) i)) w.hit
