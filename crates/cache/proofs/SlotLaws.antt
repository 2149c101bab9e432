-- What a table keeps once a page is put into one of its slots.
use Rattle.std.proofs.Common.{◌≡◌, ℕ, zero, suc, ◌<◌, ◌≤◌, ◌≢◌, ◌⊎◌, List, [], ◌∷◌, ◌++◌, length, get_or, set, Option, Some, None, sym, refl, ap, ◌∙◌, subst, inl, inr, ⊎_elim, arith}
use Rattle.std.specs.List.{position, position_or_len, refill, slice_get}
use Rattle.std.proofs.lemmas.Bool.{both_ways, cases_eq, eq-eqb, eqb-true}
use Rattle.std.proofs.lemmas.Grind.{common_steps}
use Rattle.std.proofs.lemmas.List.{length-set, take_at}
use Rattle.std.proofs.lemmas.List.Quantifiers.{position-Some}
use Rattle.std.proofs.lemmas.List.Sums.{fails_before_first}
use Rattle.std.proofs.lemmas.Option.{slice_get_within, slice_get-get_or, get_or_from_slice_get}
use Rattle.cache.specs.declared.table.Kept.{Kept}
use Rattle.cache.specs.declared.table.Table.{Table}
use Rattle.cache.specs.Slots.{Slots, keeps_page, put, At, Absent, Placed, stays, fills, ousts}

-- any slot
abbrev pub blank : Kept
blank = record { page = 0; bytes = [] }

-- the slot that a search for page p gives keeps it, and where it gives none no slot does
module _ (s : Slots) (p : ℕ) where
  pub found : (i : ℕ) → Some i ≡ position (keeps_page p) s → At s i p (get_or s i blank).bytes
  found i e =
      let h = position-Some (keeps_page p) s i blank (sym e) in
      record { holds = slice_get-get_or s i blank h.0 ∙ ap (λ (q : ℕ). Some (record { page = q; bytes = (get_or s i blank).bytes })) (eqb-true _ _ h.1) }

  pub not_found : None ≡ position (keeps_page p) s → Absent s p
  not_found e i bs a =
      let far : length s ≤ position_or_len (keeps_page p) s = grind (arith, common_steps) in
      let within = slice_get_within s i _ a.holds in
      both_ways (keeps_page p (get_or s i blank)) (fails_before_first (keeps_page p) s i blank (omega arith))
      (ap (keeps_page p) (get_or_from_slice_get s i _ blank a.holds) ∙ eq-eqb p p refl)

-- what is in the slots after k is put into slot i
put_same : (s : Slots) (i : ℕ) (k : Kept) → i ≤ length s → slice_get (put s i k) i ≡ Some k
put_same [] zero k h = refl
put_same [] (suc i) k h = absurd (omega arith)
put_same (x ∷ s) zero k h = refl
put_same (x ∷ s) (suc i) k h = put_same s i k (omega arith)

put_other : (s : Slots) (i j : ℕ) (k : Kept) → i ≤ length s → j ≢ i → slice_get (put s i k) j ≡ slice_get s j
put_other [] zero zero k h ne = absurd (ne refl)
put_other [] zero (suc j) k h ne = refl
put_other [] (suc i) j k h ne = absurd (omega arith)
put_other (x ∷ s) zero zero k h ne = absurd (ne refl)
put_other (x ∷ s) zero (suc j) k h ne = refl
put_other (x ∷ s) (suc i) zero k h ne = refl
put_other (x ∷ s) (suc i) (suc j) k h ne = put_other s i j k (omega arith) (λ e. ne (ap suc e))

put_set : (s : Slots) (i : ℕ) (k : Kept) → i < length s → set s i k ≡ put s i k
put_set [] i k h = absurd (omega arith)
put_set (x ∷ s) zero k h = refl
put_set (x ∷ s) (suc i) k h = ap (λ (r : Slots). x ∷ r) (put_set s i k (omega arith))

-- the slots d, which are s, after a write to slot i
pub put_written : (s d : Slots) (i : ℕ) (k : Kept) → d ≡ s → i < length s → refill (length s) s (set d i k) ≡ put s i k
put_written s d i k e h = ap (λ (x : Slots). refill (length s) s (set x i k)) e ∙ take_at (set s i k) _ (length s) (length-set s i k) ∙ put_set s i k h

pub put_push : (s : Slots) (k : Kept) → s ++ k ∷ [] ≡ put s (length s) k
put_push [] k = refl
put_push (x ∷ s) k = ap (λ (r : Slots). x ∷ r) (put_push s k)

some_page : (k k' : Kept) → ◌≡◌ {A = Option Kept} (Some k) (Some k') → k.page ≡ k'.page
some_page k k' e = let q : k ≡ k' = cc in ap (λ (x : Kept). x.page) q

some_bytes : (k k' : Kept) → ◌≡◌ {A = Option Kept} (Some k) (Some k') → k.bytes ≡ k'.bytes
some_bytes k k' e = let q : k ≡ k' = cc in ap (λ (x : Kept). x.bytes) q

module _ (t : Table) (p i n : ℕ) where
  pub placed_within : (few : length t.slots.items ≤ 8) → Placed t p i n → i ≤ length t.slots.items
  placed_within few (stays bs a _) = let h = slice_get_within t.slots.items i _ a.holds in omega arith
  placed_within few (fills _ e _ _) = omega arith
  placed_within few (ousts _ full e _) = omega arith

  -- no other slot keeps the page
  placed_alone : ((i' j' p' : ℕ) (b b' : List ℕ) → At t.slots.items i' p' b → At t.slots.items j' p' b' → i' ≡ j') → Placed t p i n → (j : ℕ) (cs : List ℕ) → At t.slots.items j p cs → j ≡ i
  placed_alone once (stays bs a _) j cs h = once j i p cs bs h a
  placed_alone once (fills f _ _ _) j cs h = absurd (f j cs h)
  placed_alone once (ousts f _ _ _) j cs h = absurd (f j cs h)

  -- what is kept then is the page, or was kept before, in another slot, and is another page
  pub at_put : (bs : List ℕ) (j q : ℕ) (cs : List ℕ) → length t.slots.items ≤ 8
      → ((i' j' p' : ℕ) (b b' : List ℕ) → At t.slots.items i' p' b → At t.slots.items j' p' b' → i' ≡ j')
      → Placed t p i n → At (put t.slots.items i (record { page = p; bytes = bs })) j q cs
      → ((j ≡ i) × (q ≡ p) × (cs ≡ bs)) ⊎ (At t.slots.items j q cs × (q ≢ p))
  at_put bs j q cs few once pl a = ⊎_elim same other (cases_eq j i)
    where
      here : j ≡ i → ◌≡◌ {A = Option Kept} (Some (record { page = q; bytes = cs })) (Some (record { page = p; bytes = bs }))
      here e = sym a.holds ∙ ap (slice_get (put t.slots.items i (record { page = p; bytes = bs }))) e ∙ put_same t.slots.items i _ (placed_within few pl)

      same : j ≡ i → ((j ≡ i) × (q ≡ p) × (cs ≡ bs)) ⊎ (At t.slots.items j q cs × (q ≢ p))
      same e = inl (e, some_page _ _ (here e), some_bytes _ _ (here e))

      there : j ≢ i → At t.slots.items j q cs
      there ne = record { holds = sym (put_other t.slots.items i j _ (placed_within few pl) ne) ∙ a.holds }

      other : j ≢ i → ((j ≡ i) × (q ≡ p) × (cs ≡ bs)) ⊎ (At t.slots.items j q cs × (q ≢ p))
      other ne = inr (there ne, λ e. ne (placed_alone once pl j cs (subst (λ (x : ℕ). At t.slots.items j x cs) e (there ne))))
