-- The number of records, and whether a key is among them.
use Rattle.std.proofs.Common.{◌≡◌, ℕ, ◌+◌, Bool, true, false, not, List, [], ◌∷◌, length, filter, Option, Some, None, MatchBool, MatchOption, sym, refl, ap, ◌∙◌, subst, inl, ⊎_elim, arith}
use Rattle.std.proofs.lemmas.List.Filters.{length-filter_both}
use Rattle.std.proofs.lemmas.Bool.{cases_Bool, both_ways, cond-true, cond-false}
use Rattle.std.specs.Option.{is_some}
use Rattle.keys.specs.Rule.{Rule, Lawful}
use Rattle.tree.specs.Prefix.{pre}
use Rattle.tree.specs.Members.{In}
use Rattle.tree.specs.Maps.{Rec, Valid, Apart, Change, Put, Delete, key_of, new_of, made}
use Rattle.tree.proofs.Sets.{in_right}
use Rattle.tree.proofs.Mapping.{all_of, all_in}
use Rattle.pages.specs.declared.records.Record.{Record}
use Rattle.pages.specs.Records.{FoundAt, viewed}
use Rattle.bucket.specs.Sifts.{LacksKey, HasKey}
use Rattle.bucket.specs.Laws.{AbsentThere, CountedThere}

module _ (R : Rule) where
  -- a search that found a record
  pub found_key : (k : List ℕ) (rs : List Rec) (at : ℕ) (x : Rec) → FoundAt R.same k rs at x → HasKey R k rs
  found_key k rs at x f = (x, subst (In x) (sym f.split) (in_right x f.before (x ∷ f.after) (inl refl)), f.hit)

  -- a search for the key tells whether there is one
  pub key_told : (k : List ℕ) (rs : List Rec) (o : Option (ℕ × Record)) (b : Bool) → b ≡ is_some o
      → MatchOption o (LacksKey R k rs) (λ p. FoundAt R.same k rs p.0 (viewed p.1)) → MatchBool b (HasKey R k rs) (LacksKey R k rs)
  key_told k rs None b e f = subst (λ t. MatchBool t (HasKey R k rs) (LacksKey R k rs)) (sym e) f
  key_told k rs (Some p) b e f = subst (λ t. MatchBool t (HasKey R k rs) (LacksKey R k rs)) (sym e) (found_key k rs p.0 (viewed p.1) f)

  -- the records whose key is the same as k
  abbrev spelt : List ℕ → List Rec → List Rec
  spelt k m = filter (λ x. R.same k x.key) m

  -- a change takes these away
  made_length : (c : Change) (m : List Rec) → length (made R c m) + length (spelt (key_of c) m) ≡ length m + length (new_of c)
  made_length (Put r) m = omega (arith, length-filter_both (λ x. R.same r.key x.key) (λ x. not (R.same r.key x.key)) (λ x. refl) m)
  made_length (Delete k) m = omega (arith, length-filter_both (λ x. R.same k x.key) (λ x. not (R.same k x.key)) (λ x. refl) m)

  lacks_none : (k : List ℕ) (m : List Rec) → LacksKey R k m → length (spelt k m) ≡ 0
  lacks_none k [] a = refl
  lacks_none k (x ∷ m) a = ap length (cond-false (R.same k x.key) (x ∷ spelt k m) (spelt k m) a.0) ∙ lacks_none k m a.1

  module _ (law : Lawful R) (k : List ℕ) (v : R.valid k ≡ true) where
    -- behind a record whose key is the same as k there is no other
    lacks_behind : (x : Rec) (m : List Rec) → R.valid x.key ≡ true → Valid R m → R.same k x.key ≡ true → LacksKey R x.key m → LacksKey R k m
    lacks_behind x m u w h a =
        all_in (λ y. R.same k y.key ≡ false) m (λ y i.
        ⊎_elim (λ t. absurd (both_ways (R.same x.key y.key) (all_of (λ z. R.same x.key z.key ≡ false) y m a i)
        (law.transitive x.key k y.key u v (all_of (λ z. R.valid z.key ≡ true) y m w i) (law.symmetric k x.key v u h) t))) (λ f. f) (cases_Bool (R.same k y.key)))

    one_spelt : (m : List Rec) → Valid R m → Apart R m → (x : Rec) → In x m → R.same k x.key ≡ true → length (spelt k m) ≡ 1
    one_spelt [] w a x i h = absurd i
    one_spelt (y ∷ m) w a x i h =
        ⊎_elim
        (λ t. ap length (cond-true (R.same k y.key) (y ∷ spelt k m) (spelt k m) t) ∙ omega (arith, lacks_none k m (lacks_behind y m w.0 w.1 t a.0)))
        (λ f. ap length (cond-false (R.same k y.key) (y ∷ spelt k m) (spelt k m) f)
        ∙ ⊎_elim (λ e. absurd (both_ways (R.same k y.key) f (ap (λ (z : Rec). R.same k z.key) e ∙ h))) (λ j. one_spelt m w.1 a.1 x j h) i)
        (cases_Bool (R.same k y.key))

  module _ (law : Lawful R) where
    pub absent_there : AbsentThere R
    absent_there c m rs l b = (
      (λ a. all_in (λ x. R.same (key_of c) x.key ≡ false) m (λ x i.
          ⊎_elim (λ t. absurd (both_ways (R.same (key_of c) x.key) (all_of (λ y. R.same (key_of c) y.key ≡ false) x rs a
          ((b.begun x).1 i (ap (λ u. pre 32 u l) (sym (law.hashes (key_of c) x.key b.valid (all_of (λ y. R.valid y.key ≡ true) x m b.map.valid i) t))))) t))
          (λ f. f) (cases_Bool (R.same (key_of c) x.key)))),
      λ a. all_in (λ x. R.same (key_of c) x.key ≡ false) rs (λ x i. all_of (λ y. R.same (key_of c) y.key ≡ false) x m a ((b.begun x).0 i).0),
    )

    pub counted_there : CountedThere R
    counted_there c m rs l b = (
      (λ a. omega (arith, made_length c m, lacks_none (key_of c) m ((absent_there c m rs l b).0 a))),
      λ h. omega (arith, made_length c m, one_spelt law (key_of c) b.valid m b.map.valid b.map.apart h.0 ((b.begun h.0).0 h.1).0 h.2),
    )
