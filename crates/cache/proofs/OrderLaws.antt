-- The pages kept, oldest first: who is among them, and how the order changes as a page is kept.
use Rattle.std.proofs.Common.{◌≡◌, ℕ, zero, suc, ◌+◌, ◌%◌, ◌<◌, ◌≤◌, Bool, true, false, eqb, List, [], ◌∷◌, ◌++◌, length, set, Some, sym, refl, ap, ◌∙◌, inl, inr, ⊎_elim, append-nil, arith, length-append}
use Rattle.std.specs.List.{slice_get}
use Rattle.std.proofs.lemmas.List.{length-map, length-set}
use Rattle.std.proofs.lemmas.Bool.{eq-eqb, eqb-true, cond-true, cond-false, cond_both}
use Rattle.device.specs.Meaning.{has}
use Rattle.cache.specs.declared.table.Kept.{Kept}
use Rattle.cache.specs.declared.table.Table.{Table}
use Rattle.cache.specs.Slots.{Slots, put, At, Absent, Placed, stays, fills, ousts}
use Rattle.cache.specs.Order.{pages, round, kept, newest, joined}
use Rattle.cache.specs.Keeping.{Ordered}
use Rattle.cache.proofs.Rows.{has_round, turns, newest_few, newest_nine}

slot_has : (s : Slots) (i : ℕ) (k : Kept) → slice_get s i ≡ Some k → has k.page (pages s) ≡ true
slot_has [] i k e = cc
slot_has (x ∷ s) zero k e = let q : x ≡ k = cc in cond-true (eqb k.page x.page) true _ (eq-eqb _ _ (ap (λ (y : Kept). y.page) (sym q)))
slot_has (x ∷ s) (suc i) k e = rw (slot_has s i k e) (cond_both (eqb k.page x.page) true true (λ (b : Bool). b ≡ true) (λ _. refl) (λ _. refl))

slots_lack : (s : Slots) (p : ℕ) → ((i : ℕ) (bs : List ℕ) → slice_get s i ≡ Some (record { page = p; bytes = bs }) → ⊥) → has p (pages s) ≡ false
slots_lack [] p f = refl
slots_lack (k ∷ s) p f =
    cond_both (eqb p k.page) true (has p (pages s)) (λ (b : Bool). b ≡ false)
    (λ t. absurd (f 0 k.bytes (ap (λ (q : ℕ). Some (record { page = q; bytes = k.bytes })) (sym (eqb-true _ _ t)))))
    (λ _. slots_lack s p (λ i bs h. f (suc i) bs h))

-- a page in a slot is kept, and one in none is not
pub at_kept : (t : Table) (i p : ℕ) (bs : List ℕ) → At t.slots.items i p bs → has p (kept t) ≡ true
unfolding kept
at_kept t i p bs a = has_round p (t.next % 8) (pages t.slots.items) ∙ slot_has t.slots.items i _ a.holds

pub absent_kept : (t : Table) (p : ℕ) → Absent t.slots.items p → has p (kept t) ≡ false
unfolding kept
absent_kept t p f = has_round p (t.next % 8) (pages t.slots.items) ∙ slots_lack t.slots.items p (λ i bs h. f i bs (record { holds = h }))

-- the pages in the slots after k is put into slot i
put_back : (s : Slots) (i : ℕ) (k k' : Kept) → slice_get s i ≡ Some k' → k.page ≡ k'.page → pages (put s i k) ≡ pages s
put_back [] i k k' e p = cc
put_back (x ∷ s) zero k k' e p = let q : x ≡ k' = cc in ap (λ (n : ℕ). n ∷ pages s) (p ∙ ap (λ (y : Kept). y.page) (sym q))
put_back (x ∷ s) (suc i) k k' e p = ap (λ (ps : List ℕ). x.page ∷ ps) (put_back s i k k' e p)

put_end : (s : Slots) (i : ℕ) (k : Kept) → i ≡ length s → pages (put s i k) ≡ pages s ++ k.page ∷ []
put_end [] zero k e = refl
put_end [] (suc i) k e = absurd (omega arith)
put_end (x ∷ s) zero k e = absurd (omega arith)
put_end (x ∷ s) (suc i) k e = ap (λ (ps : List ℕ). x.page ∷ ps) (put_end s i k (omega arith))

put_in : (s : Slots) (i : ℕ) (k : Kept) → i < length s → pages (put s i k) ≡ set (pages s) i k.page
put_in [] i k h = absurd (omega arith)
put_in (x ∷ s) zero k h = refl
put_in (x ∷ s) (suc i) k h = ap (λ (ps : List ℕ). x.page ∷ ps) (put_in s i k (omega arith))

-- where some slot is free the pages stand in the slots' order
kept_free : (t : Table) (ps : List ℕ) → pages t.slots.items ≡ ps → t.next ≡ 0 → kept t ≡ ps
unfolding kept
kept_free t ps r n = ap (λ (k : ℕ). round (k % 8) (pages t.slots.items)) n ∙ append-nil (pages t.slots.items) ∙ r

kept_round : (t : Table) (ps : List ℕ) → pages t.slots.items ≡ ps → kept t ≡ round (t.next % 8) ps
unfolding kept
kept_round t ps r = ap (round (t.next % 8)) r

-- the table t' is the table t with page p, of these bytes, in slot i
module _ (t t' : Table) (p : ℕ) (bs : List ℕ) (o : Ordered t) (i : ℕ) (is : t'.slots.items ≡ put t.slots.items i (record { page = p; bytes = bs })) where
  abbrev Joined : Type 0
  Joined = (kept t' ≡ joined p (kept t)) × Ordered t'

  size : length (pages t.slots.items) ≡ length t.slots.items
  size = length-map t.slots.items _

  size' : length (pages t'.slots.items) ≡ length t'.slots.items
  size' = length-map t'.slots.items _

  stays_joined : (cs : List ℕ) → At t.slots.items i p cs → t'.next ≡ t.next → Joined
  stays_joined cs a n =
      let e = ap pages is ∙ put_back t.slots.items i _ _ a.holds refl in
      let l : length t'.slots.items ≡ length t.slots.items = sym size' ∙ ap length e ∙ size in (
        kept_round t' _ e ∙ ap (λ (k : ℕ). round (k % 8) (pages t.slots.items)) n ∙ sym (kept_round t _ refl) ∙ sym (cond-true (has p (kept t)) _ _ (at_kept t i p cs a)),
        record { few = omega (arith, o.few); start = ⊎_elim (λ f. inl (l ∙ f)) (λ z. inr (n ∙ z)) o.start },
      )

  fills_joined : Absent t.slots.items p → i ≡ length t.slots.items → i < 8 → t'.next ≡ t.next → Joined
  fills_joined ab at lt n =
      let z : t.next ≡ 0 = ⊎_elim (λ f. absurd (omega arith)) (λ z. z) o.start in
      let r = ap pages is ∙ put_end t.slots.items i _ at in
      let l : length t'.slots.items ≡ length t.slots.items + 1 = sym size' ∙ ap length r ∙ length-append (pages t.slots.items) (p ∷ []) ∙ ap (λ (k : ℕ). k + 1) size in
      let few : length (pages t.slots.items ++ p ∷ []) ≤ 8 = omega (arith, length-append (pages t.slots.items) (p ∷ []), size) in (
        kept_free t' _ r (n ∙ z) ∙ sym (newest_few _ few) ∙ ap (λ (ps : List ℕ). newest (ps ++ p ∷ [])) (sym (kept_free t _ refl z))
            ∙ sym (cond-false (has p (kept t)) _ _ (absent_kept t p ab)),
        record { few = omega arith; start = inr (n ∙ z) },
      )

  ousts_joined : Absent t.slots.items p → length t.slots.items ≡ 8 → i ≡ t.next % 8 → t'.next ≡ (i + 1) % 8 → Joined
  ousts_joined ab full at n =
      let eight : length (pages t.slots.items) ≡ 8 = size ∙ full in
      let r = ap pages is ∙ put_in t.slots.items i _ (omega arith) in
      let l : length t'.slots.items ≡ 8 = sym size' ∙ ap length r ∙ length-set (pages t.slots.items) i p ∙ eight in
      let m : t'.next % 8 ≡ (i + 1) % 8 = omega arith in (
        kept_round t' _ r ∙ ap (λ (k : ℕ). round k (set (pages t.slots.items) i p)) m ∙ turns (pages t.slots.items) i p eight (omega arith)
            ∙ sym (newest_nine i (pages t.slots.items) p eight)
            ∙ ap (λ (ps : List ℕ). newest (ps ++ p ∷ [])) (ap (λ (k : ℕ). round k (pages t.slots.items)) at ∙ sym (kept_round t _ refl))
            ∙ sym (cond-false (has p (kept t)) _ _ (absent_kept t p ab)),
        record { few = omega arith; start = inl l },
      )

  -- the page joins by the rule, and the slots keep their order
  pub placed_joined : Placed t p i t'.next → Joined
  placed_joined (stays cs a n) = stays_joined cs a n
  placed_joined (fills ab at lt n) = fills_joined ab at lt n
  placed_joined (ousts ab full at n) = ousts_joined ab full at n
