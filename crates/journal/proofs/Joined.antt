-- The pages that wait and their bytes, as entries.
use Rattle.std.proofs.Common.{◌≡◌, ℕ, zero, suc, ◌<◌, ◌≤◌, cond, ltb, eqb, List, [], ◌∷◌, ◌++◌, length, get_or, set, Some, None, sym, refl, ap, ◌∙◌, arith}
use Rattle.std.specs.List.{position, position_or_len}
use Rattle.std.proofs.lemmas.Bool.{ne_eqb}
use Rattle.std.proofs.lemmas.Bool.Decides.{nat_tests}
use Rattle.journal.specs.Entries.{Entry}
use Rattle.journal.specs.Waiting.{blank, pages, joined, place, look_up}
use Rattle.journal.proofs.Helds.{placed, not_placed}

-- as many entries as pages, each of its page and with the bytes at its place
pub joined_short : (ps : List ℕ) (bs : List (List ℕ)) → length (joined ps bs) ≤ length bs
joined_short [] bs = omega arith
joined_short (p ∷ ps) [] = omega arith
joined_short (p ∷ ps) (b ∷ bs) = let r = joined_short ps bs in omega arith

pub joined_length : (ps : List ℕ) (bs : List (List ℕ)) → length ps ≤ length bs → length (joined ps bs) ≡ length ps
joined_length [] bs h = refl
joined_length (p ∷ ps) [] h = absurd (omega arith)
joined_length (p ∷ ps) (b ∷ bs) h = ap suc (joined_length ps bs (omega arith))

pub joined_none : (ps : List ℕ) (bs : List (List ℕ)) → 0 < length bs → eqb (length ps) 0 ≡ eqb (length (joined ps bs)) 0
joined_none [] bs h = refl
joined_none (p ∷ ps) [] h = absurd (omega arith)
joined_none (p ∷ ps) (b ∷ bs) h = ne_eqb (suc (length ps)) 0 (λ z. omega arith) ∙ sym (ne_eqb (suc (length (joined ps bs))) 0 (λ z. omega arith))

pub joined_pages : (ps : List ℕ) (bs : List (List ℕ)) → length ps ≤ length bs → pages (joined ps bs) ≡ ps
joined_pages [] bs h = refl
joined_pages (p ∷ ps) [] h = absurd (omega arith)
joined_pages (p ∷ ps) (b ∷ bs) h = ap (λ (l : List ℕ). p ∷ l) (joined_pages ps bs (omega arith))

pub joined_bytes : (ps : List ℕ) (bs : List (List ℕ)) (j : ℕ) (d : List ℕ) → j < length (joined ps bs) → get_or bs j d ≡ (get_or (joined ps bs) j blank).bytes
joined_bytes [] bs j d h = absurd (omega arith)
joined_bytes (p ∷ ps) [] j d h = absurd (omega arith)
joined_bytes (p ∷ ps) (b ∷ bs) zero d h = refl
joined_bytes (p ∷ ps) (b ∷ bs) (suc j) d h = joined_bytes ps bs j d (omega arith)

-- a write of bytes
pub joined_set : (ps : List ℕ) (bs : List (List ℕ)) (k : ℕ) (b : List ℕ) → k < length (joined ps bs)
    → joined ps (set bs k b) ≡ set (joined ps bs) k (record { page = (get_or (joined ps bs) k blank).page; bytes = b })
joined_set [] bs k b h = absurd (omega arith)
joined_set (p ∷ ps) [] k b h = absurd (omega arith)
joined_set (p ∷ ps) (c ∷ bs) zero b h = refl
joined_set (p ∷ ps) (c ∷ bs) (suc k) b h = ap (λ (l : List Entry). (record { page = p; bytes = c }) ∷ l) (joined_set ps bs k b (omega arith))

pub joined_push : (ps : List ℕ) (bs : List (List ℕ)) (p : ℕ) (b : List ℕ) → length ps < length bs
    → joined (ps ++ p ∷ []) (set bs (length ps) b) ≡ joined ps bs ++ (record { page = p; bytes = b }) ∷ []
joined_push ps [] p b h = absurd (omega arith)
joined_push [] (c ∷ bs) p b h = refl
joined_push (q ∷ ps) (c ∷ bs) p b h = ap (λ (l : List Entry). (record { page = q; bytes = c }) ∷ l) (joined_push ps bs p b (omega arith))

-- the place of a page among the entries is its place among the pages
first_joined : (ps : List ℕ) (bs : List (List ℕ)) (p : ℕ) → length ps ≤ length bs → position_or_len (λ q. eqb q p) ps ≡ position_or_len (λ e. eqb e.page p) (joined ps bs)
first_joined [] bs p h = refl
first_joined (q ∷ ps) [] p h = absurd (omega arith)
first_joined (q ∷ ps) (b ∷ bs) p h = grind (arith, nat_tests, first_joined ps bs p)

pub joined_place : (ps : List ℕ) (bs : List (List ℕ)) (p : ℕ) → length ps ≤ length bs → position (λ q. eqb q p) ps ≡ place (joined ps bs) p
joined_place ps bs p h =
    ap (λ (k : ℕ). cond (ltb k (length ps)) (Some k) None) (first_joined ps bs p h)
    ∙ ap (λ (n : ℕ). cond (ltb (position_or_len (λ (e : Entry). eqb e.page p) (joined ps bs)) n) (Some (position_or_len (λ (e : Entry). eqb e.page p) (joined ps bs))) None)
    (sym (joined_length ps bs h))

-- what is found of a page that waits stands at its place
found_first : (es : List Entry) (p k : ℕ) → k < length es → ((j : ℕ) → j < k → (get_or es j blank).page ≡ p → ⊥) → (get_or es k blank).page ≡ p
    → Some (get_or es k blank).bytes ≡ look_up es p
found_first [] p k h n e = absurd (omega arith)
found_first (x ∷ es) p zero h n e = grind (arith, nat_tests)
found_first (x ∷ es) p (suc k) h n e = let r = found_first es p k (omega arith) (λ j l. n (suc j) (omega arith)) e in let z = n 0 (omega arith) in grind (arith, nat_tests)

pub found_at : (es : List Entry) (p k : ℕ) → Some k ≡ place es p → Some (get_or es k blank).bytes ≡ look_up es p
found_at es p k e = let a = placed es p k e in found_first es p k a.within a.before a.here

found_none : (es : List Entry) (p : ℕ) → ((j : ℕ) → j < length es → (get_or es j blank).page ≡ p → ⊥) → None ≡ look_up es p
found_none [] p n = refl
found_none (x ∷ es) p n = let r = found_none es p (λ j l. n (suc j) (omega arith)) in let z = n 0 (omega arith) in grind (arith, nat_tests)

pub found_nowhere : (es : List Entry) (p : ℕ) → None ≡ place es p → None ≡ look_up es p
found_nowhere es p e = found_none es p (not_placed es p e)

-- the place of a page that waits has bytes
pub place_short : (ps : List ℕ) (bs : List (List ℕ)) (p k : ℕ) → Some k ≡ place (joined ps bs) p → k < length bs
place_short ps bs p k e = let a = (placed (joined ps bs) p k e).within in let b = joined_short ps bs in omega arith

-- the page of an entry
pub page_at : (es : List Entry) (j : ℕ) → get_or (pages es) j 0 ≡ (get_or es j blank).page
page_at [] j = refl
page_at (e ∷ es) zero = refl
page_at (e ∷ es) (suc j) = page_at es j
