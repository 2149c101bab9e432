-- A page that joins those that wait, or takes its old place.
use Rattle.std.proofs.Common.{◌≡◌, ℕ, zero, suc, ◌+◌, ◌<◌, ◌≤◌, true, ◌≢◌, ◌⊎◌, List, [], ◌∷◌, ◌++◌, length, get_or, set, Some, None, refl, inl, inr, arith}
use Rattle.std.proofs.lemmas.Bool.Decides.{nat_tests}
use Rattle.device.specs.Meaning.{State, bytes, has, Distinct}
use Rattle.journal.specs.Entries.{Entry}
use Rattle.journal.specs.Waiting.{blank, pages, held, AllFit, place, with_page, PutDone, PutFull}
use Rattle.journal.proofs.Helds.{has_later, absent, placed, not_placed}

abbrev pub entry : ℕ → List ℕ → Entry
entry p buf = record { page = p; bytes = buf }

abbrev NotBefore : List Entry → ℕ → ℕ → Type 0
NotBefore es p k = (j : ℕ) → j < k → (get_or es j blank).page ≡ p → ⊥

with_first : (es : List Entry) (p : ℕ) (buf : List ℕ) (k : ℕ) → k < length es → (get_or es k blank).page ≡ p → NotBefore es p k → set es k (entry p buf) ≡ with_page es p buf
with_first [] p buf k h e n = absurd (omega arith)
with_first (x ∷ es) p buf zero h e n = grind (arith, nat_tests)
with_first (x ∷ es) p buf (suc k) h e n = let r = with_first es p buf k (omega arith) e (λ j l. n (suc j) (omega arith)) in let z = n 0 (omega arith) in grind (arith, nat_tests)

with_none : (es : List Entry) (p : ℕ) (buf : List ℕ) → NotBefore es p (length es) → es ++ entry p buf ∷ [] ≡ with_page es p buf
with_none [] p buf n = refl
with_none (x ∷ es) p buf n = let r = with_none es p buf (λ j l. n (suc j) (omega arith)) in let z = n 0 (omega arith) in grind (arith, nat_tests)

-- what `put` leaves in memory
module _ (es : List Entry) (p : ℕ) (buf : List ℕ) where
  pub put_old : (k : ℕ) → Some k ≡ place es p → PutDone es p buf (set es k (entry p buf))
  put_old k e = let a = placed es p k e in record {
    room = inl (has_later es p k a.within a.here);
    joins = with_first es p buf k a.within a.here a.before;
  }

  pub put_new : None ≡ place es p → length es < 64 → PutDone es p buf (es ++ entry p buf ∷ [])
  put_new e h = record { room = inr h; joins = with_none es p buf (not_placed es p e) }

  pub put_full : None ≡ place es p → 64 ≤ length es → PutFull es p es
  put_full e h = record { absent = absent es p (not_placed es p e); full = h; same = refl }

-- what is then shown, and what waits
pub with_held : (es : List Entry) (p : ℕ) (buf : List ℕ) (d : State) → held (with_page es p buf) p d ≡ bytes buf
with_held [] p buf d = grind (arith, nat_tests)
with_held (e ∷ es) p buf d = grind (arith, nat_tests, with_held es p buf d)

pub with_others : (es : List Entry) (p : ℕ) (buf : List ℕ) (i : ℕ) (d : State) → i ≢ p → held (with_page es p buf) i d ≡ held es i d
with_others [] p buf i d ne = grind (arith, nat_tests)
with_others (e ∷ es) p buf i d ne = grind (arith, nat_tests, with_others es p buf i d ne)

pub with_has : (es : List Entry) (p : ℕ) (buf : List ℕ) (i : ℕ) → has i (pages (with_page es p buf)) ≡ true → (has i (pages es) ≡ true) ⊎ (i ≡ p)
with_has [] p buf i h = grind (arith, nat_tests)
with_has (e ∷ es) p buf i h = grind (arith, nat_tests, with_has es p buf i)

pub with_distinct : (es : List Entry) (p : ℕ) (buf : List ℕ) → Distinct (pages es) → Distinct (pages (with_page es p buf))
with_distinct [] p buf d = (refl, tt)
with_distinct (e ∷ es) p buf d = grind (arith, nat_tests, with_distinct es p buf, with_has es p buf e.page)

pub with_fit : (m : ℕ) (es : List Entry) (p : ℕ) (buf : List ℕ) → p < m → length buf ≡ 252 → AllFit m es → AllFit m (with_page es p buf)
with_fit m [] p buf h pg f = (h, pg, tt)
with_fit m (e ∷ es) p buf h pg f = grind (arith, nat_tests, with_fit m es p buf h pg)

with_length : (es : List Entry) (p : ℕ) (buf : List ℕ) → length (with_page es p buf) ≤ length es + 1
with_length [] p buf = grind (arith, nat_tests)
with_length (e ∷ es) p buf = grind (arith, nat_tests, with_length es p buf)

with_same : (es : List Entry) (p : ℕ) (buf : List ℕ) → has p (pages es) ≡ true → length (with_page es p buf) ≡ length es
with_same [] p buf h = absurd (cc)
with_same (e ∷ es) p buf h = grind (arith, nat_tests, with_same es p buf)

pub with_few : (es : List Entry) (p : ℕ) (buf : List ℕ) → length es ≤ 64 → (has p (pages es) ≡ true) ⊎ (length es < 64) → length (with_page es p buf) ≤ 64
with_few es p buf few r = grind (arith, with_length es p buf, with_same es p buf)
