-- What the reader of a header finds.
use Rattle.std.proofs.Common.{◌≡◌, ℕ, zero, suc, ◌+◌, ◌*◌, ◌/◌, ◌%◌, ◌<◌, ◌≤◌, Bool, true, false, ◌&&◌, eqb, leb, List, [], ◌∷◌, ◌++◌, length, get_or, drop, Option, Some, None, MatchOption, MatchBool, sym, refl, ap, ◌∙◌, ◌⊎◌, ⊎_elim, subst, arith, map}
use Rattle.std.proofs.lemmas.List.{at_drop_more}
use Rattle.std.proofs.lemmas.Bool.{le-leb, leb-true, and_from, and_parts, cases_Bool, cond-true, cond-false, false≢true}
use Rattle.std.specs.Borrow.{Bor}
use Rattle.std.specs.List.{list_any, enumerate_from, AllWithin, HoldsAt}
use Rattle.std.proofs.lemmas.List.FromFn.{get_or-enumerate_from, length-enumerate_from}
use Rattle.std.specs.Simd.{first_chunks}
use Rattle.std.proofs.lemmas.Bool.Decides.{nat_tests}
use Rattle.arrayvec.specs.ArrayVec.{ArrayVec}
use Rattle.layout.specs.Envelope.{envelope, Enveloped, body_part, same}
use Rattle.layout.proofs.Envelopes.{envelope_inj, envelope_length, body_part-envelope, same_true, same_self}
use Rattle.device.specs.Meaning.{bytes, has}
use Rattle.journal.specs.Entries.{Entry}
use Rattle.journal.specs.Waiting.{pages}
use Rattle.journal.specs.Header.{two_bytes, pairs, Numbers, header, once, names, named, targets}
use Rattle.journal.proofs.Targets.{pairs_back}

-- what `contains` answers
pub has_any : (p : ℕ) (xs : List ℕ) → list_any (λ y. eqb y p) xs ≡ has p xs
has_any p [] = refl
has_any p (x ∷ xs) = grind (arith, nat_tests, has_any p xs)

pub once_past : (n : ℕ) (xs : List ℕ) (i : ℕ) → i < length xs → n ≤ get_or xs i 0 → once n (drop i xs) ≡ false
once_past n xs i h l = at_drop_more (once n) xs i 0 h ∙ grind (arith, nat_tests)

pub once_again : (n : ℕ) (xs : List ℕ) (i : ℕ) → i < length xs → has (get_or xs i 0) (drop (i + 1) xs) ≡ true → once n (drop i xs) ≡ false
once_again n xs i h e = at_drop_more (once n) xs i 0 h ∙ grind (arith, nat_tests)

-- what of one page, at its place in a list, keeps a list from being distinct pages below n
abbrev pub Unlike : ℕ → List ℕ → ℕ × ℕ → Type 0
Unlike n xs p = (n ≤ p.1) ⊎ (has p.1 (drop (p.0 + 1) xs) ≡ true)

abbrev pub Apart : ℕ → List ℕ → ℕ × ℕ → Type 0
Apart n xs p = (p.1 < n) × (has p.1 (drop (p.0 + 1) xs) ≡ false)

once_all : (n : ℕ) (xs : List ℕ) → ((i : ℕ) → i < length xs → Apart n xs (i, get_or xs i 0)) → once n xs ≡ true
once_all n [] k = refl
once_all n (x ∷ xs) k = let h = k 0 (omega arith) in let e = once_all n xs (λ i l. let q = k (suc i) (omega arith) in let step : suc i + 1 ≡ suc (i + 1) = omega arith in (q.0, subst (λ m. has (get_or xs i 0) (drop m (x ∷ xs)) ≡ false) step q.1)) in grind (arith, nat_tests)

once_back : (n : ℕ) (xs : List ℕ) (k : ℕ) → once n (drop k xs) ≡ false → once n xs ≡ false
once_back n xs zero e = e
once_back n [] (suc k) e = e
once_back n (x ∷ xs) (suc k) e = let r = once_back n xs k e in grind (arith, nat_tests)

placed : (xs : List ℕ) (i : ℕ) → i < length xs → get_or (enumerate_from 0 xs) i (0, 0) ≡ (i, get_or xs i 0)
placed xs i l = let z : 0 + i ≡ i = omega arith in get_or-enumerate_from 0 xs i (0, 0) l ∙ ap (λ (j : ℕ). (j, get_or xs i 0)) z

-- what is told of all pages of a list, each with its place
pub once_told : (n : ℕ) (xs : List ℕ) (r : Bool)
    → MatchBool r (AllWithin (Apart n xs) (enumerate_from 0 xs) 0 (length (enumerate_from 0 xs))) ((k : ℕ) × (k < length (enumerate_from 0 xs)) × HoldsAt (Unlike n xs) (enumerate_from 0 xs) k)
    → r ≡ once n xs
once_told n xs true a = sym (once_all n xs (λ i l.
    subst (Apart n xs) (placed xs i l) (a i (0, 0) (omega arith) (omega (arith, l, length-enumerate_from 0 xs)))))
once_told n xs false h =
    let k = h.0 in
    let l : k < length xs = omega (arith, h.1, length-enumerate_from 0 xs) in
    sym (once_back n xs k (⊎_elim (once_past n xs k l) (once_again n xs k l) (subst (Unlike n xs) (placed xs k l) (h.2 (0, 0)))))

-- the number that two bytes make
abbrev pub word : List ℕ → ℕ
word c = get_or c 0 0 * 256 + get_or c 1 0

-- bytes that make numbers are those of the numbers
pub bytes_back : (k : ℕ) (b : List ℕ) → length b ≡ 2 * k → ((i : ℕ) → get_or b i 0 < 256) → two_bytes (map word (first_chunks 2 k b)) ≡ b
bytes_back zero [] e s = refl
bytes_back zero (h ∷ b) e s = absurd (omega arith)
bytes_back (suc k) [] e s = absurd (omega arith)
bytes_back (suc k) (h ∷ []) e s = absurd (omega arith)
bytes_back (suc k) (h ∷ (l ∷ rest)) e s =
    let low : l < 256 = s 1 in
    let a : (h * 256 + l) / 256 ≡ h = omega arith in
    let b : (h * 256 + l) % 256 ≡ l = omega arith in
    let r = bytes_back k rest (omega arith) (λ i. s (suc (suc i))) in
    λ i. a i ∷ b i ∷ r i

pub two_length : (ts : List ℕ) → length (two_bytes ts) ≡ 2 * length ts
two_length [] = refl
two_length (t ∷ ts) = let h = two_length ts in omega arith

pub numbers_length : (body ts : List ℕ) → Numbers body ts → length body ≡ 2 * length ts
numbers_length body ts k = sym (ap length k.made) ∙ two_length ts

pub two_push : (ts : List ℕ) (t : ℕ) → two_bytes (ts ++ t ∷ []) ≡ two_bytes ts ++ (t / 256 ∷ t % 256 ∷ [])
two_push [] t = refl
two_push (u ∷ ts) t = ap (λ (l : List ℕ). u / 256 ∷ u % 256 ∷ l) (two_push ts t)

pub pages_push : (es : List Entry) (e : Entry) → pages (es ++ e ∷ []) ≡ pages es ++ e.page ∷ []
pages_push [] e = refl
pages_push (d ∷ es) e = ap (λ (l : List ℕ). d.page ∷ l) (pages_push es e)

module _ (n : ℕ) (page : List ℕ) where
  refused : (ts : List ℕ) → (names n page ts ≡ true → ⊥) → [] ≡ named n page ts
  refused ts f = ⊎_elim (λ y. absurd (f y)) (λ z. sym (cond-false (names n page ts) ts [] z)) (cases_Bool (names n page ts))

  header_of : (ts : List ℕ) → names n page ts ≡ true → page ≡ header ts
  header_of ts y = same_true page (header ts) (and_parts (same page (header ts)) (leb (length ts) 64 && once n ts) y).0

  -- a page that is not by layout names nothing
  pub not_by_layout : length page ≡ 252 → ((body : List ℕ) → Enveloped page body → ⊥) → [] ≡ targets n (bytes page)
  not_by_layout len f = refused ts (λ y. f (two_bytes ts) (record { fits = envelope_length (two_bytes ts) (sym (ap length (header_of ts y)) ∙ len); is = header_of ts y }))
    where
      ts : List ℕ
      ts = pairs (body_part page)

  module _ (body : List ℕ) (v : Enveloped page body) where
    as_named : named n page (pairs body) ≡ targets n (bytes page)
    as_named = ap (λ (b : List ℕ). named n page (pairs b)) (sym (ap body_part v.is ∙ body_part-envelope body))

    tests : (ts : List ℕ) → names n page ts ≡ true → (leb (length ts) 64 ≡ true) × (once n ts ≡ true)
    tests ts y = and_parts (leb (length ts) 64) (once n ts) (and_parts (same page (header ts)) (leb (length ts) 64 && once n ts) y).1

    -- a body that is no numbers of two bytes each names nothing
    pub no_numbers : ((ts : List ℕ) → Numbers body ts → ⊥) → [] ≡ targets n (bytes page)
    no_numbers f = refused (pairs body) (λ y. f (pairs body) (record {
      few = leb-true (length (pairs body)) 64 (tests (pairs body) y).0;
      made = sym (envelope_inj body (two_bytes (pairs body)) (sym v.is ∙ header_of (pairs body) y));
    })) ∙ as_named

    module _ (ts : List ℕ) (k : Numbers body ts) where
      its : named n page ts ≡ targets n (bytes page)
      its = ap (named n page) (sym (ap pairs (sym k.made) ∙ pairs_back ts)) ∙ as_named

      pub not_once : once n ts ≡ false → [] ≡ targets n (bytes page)
      not_once e = refused ts (λ y. false≢true (sym e ∙ (tests ts y).1)) ∙ its

      pub names_group : once n ts ≡ true → ts ≡ targets n (bytes page)
      names_group o =
          let is : page ≡ header ts = v.is ∙ ap envelope (sym k.made) in
          sym (cond-true (names n page ts) ts [] (and_from (same page (header ts)) (leb (length ts) 64 && once n ts)
          (ap (λ (p : List ℕ). same page p) (sym is) ∙ same_self page) (and_from (leb (length ts) 64) (once n ts) (le-leb _ _ k.few) o))) ∙ its

  -- what is found of a page, by its body o and the numbers r in it
  pub parsed : length page ≡ 252 → (o : Option (Bor (List ℕ))) (r : Option (ArrayVec ℕ)) → MatchOption o ((body : List ℕ) → Enveloped page body → ⊥) (λ b. Enveloped page b.now)
      → MatchOption o (r ≡ None) (λ b. MatchOption r ((ts : List ℕ) → Numbers b.now ts → ⊥) (λ t. Numbers b.now t.items))
      → MatchOption r ([] ≡ targets n (bytes page)) (λ t. MatchBool (once n t.items) (t.items ≡ targets n (bytes page)) ([] ≡ targets n (bytes page)))
  parsed len None r v e = rw e (not_by_layout len v)
  parsed len (Some b) None v e = no_numbers b.now v e
  parsed len (Some b) (Some t) v e = either (once n t.items) (names_group b.now v t.items e) (not_once b.now v t.items e)
    where
      either : (b : Bool) {A B : Type 0} → (b ≡ true → A) → (b ≡ false → B) → MatchBool b A B
      either true f g = f refl
      either false f g = g refl
