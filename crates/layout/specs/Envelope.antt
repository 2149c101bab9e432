-- The layout that every page has. Numbers are big-endian.
use Rattle.std.specs.Prelude.{◌≡◌, ℕ, ◌+◌, ◌-◌, ◌*◌, ◌/◌, ◌%◌, ◌<◌, ◌≤◌, Bool, true, false, ◌&&◌, List, [], ◌∷◌, ◌++◌, length, take, drop, replicate, Result, MatchResult, ◌==◌, slice_index}
use Rattle.layout.specs.declared.NoRoom.{NoRoom}

-- a number in two bytes
abbrev pub be2 : ℕ → List ℕ
be2 n = n / 256 ∷ n % 256 ∷ []

-- the page with this body: the version byte 1, two bytes of the body's length, the body, then zeros, 252 bytes in all
unfoldable pub envelope : List ℕ → List ℕ
envelope body = 1 ∷ length body / 256 ∷ length body % 256 ∷ (body ++ replicate (249 - length body) 0)

-- the page is by layout, and that is its body
pub record Enveloped (page body : List ℕ) : Type 0 where
  pub fits : length body ≤ 249
  pub is : page ≡ envelope body

-- the body that the length bytes of a page mark off
abbrev pub body_part : List ℕ → List ℕ
body_part page = take (slice_index page 1 * 256 + slice_index page 2) (drop 3 page)

-- whether two lists of bytes are the same
abbrev pub same : List ℕ → List ℕ → Bool
same [] [] = true
same [] (y ∷ ys) = false
same (x ∷ xs) [] = false
same (x ∷ xs) (y ∷ ys) = x == y && same xs ys

-- bytes were added to the body of a page, or had no room there
abbrev pub Extended : List ℕ → List ℕ → List ℕ → Result (Unit {0}) NoRoom → Type 0
Extended page body more r = MatchResult r (λ _. Enveloped page (body ++ more)) (λ _. (249 < length body + length more) × (page ≡ envelope body))
