-- The header: the page that names some targets, and the targets that a page names.
use Rattle.std.specs.Prelude.{◌≡◌, ℕ, ◌≤◌, ◌+◌, ◌*◌, Bool, true, cond, not, ◌&&◌, List, [], ◌∷◌, ◌++◌, length, nat_le, nat_lt}
use Rattle.layout.specs.Envelope.{be2, envelope, body_part, same}
use Rattle.device.specs.Meaning.{State, bytes, spoiled, has}

-- two bytes a number
abbrev pub two_bytes : List ℕ → List ℕ
two_bytes [] = []
two_bytes (t ∷ ts) = be2 t ++ two_bytes ts

-- the numbers that two bytes each make
abbrev pub pairs : List ℕ → List ℕ
pairs [] = []
pairs (h ∷ []) = []
pairs (h ∷ (l ∷ rest)) = (h * 256 + l) ∷ pairs rest

-- these are the numbers of a body of two bytes each, at most 64
pub record Numbers (body ts : List ℕ) : Type 0 where
  pub few : length ts ≤ 64
  pub made : two_bytes ts ≡ body

-- the header that names these targets
abbrev pub header : List ℕ → List ℕ
header ts = envelope (two_bytes ts)

abbrev pub all_below : ℕ → List ℕ → Bool
all_below n [] = true
all_below n (t ∷ ts) = nat_lt t n && all_below n ts

abbrev pub distinct : List ℕ → Bool
distinct [] = true
distinct (t ∷ ts) = not (has t ts) && distinct ts

-- distinct numbers below n
abbrev pub once : ℕ → List ℕ → Bool
once n ts = all_below n ts && distinct ts

-- the page is the header of these targets, and they are at most 64 distinct numbers below n
abbrev pub names : ℕ → List ℕ → List ℕ → Bool
names n page ts = same page (header ts) && (nat_le (length ts) 64 && once n ts)

abbrev pub named : ℕ → List ℕ → List ℕ → List ℕ
named n page ts = cond (names n page ts) ts []

-- the targets that a page names where there are n pages: those in its body, or none
abbrev pub targets : ℕ → State → List ℕ
targets n (bytes page) = named n page (pairs (body_part page))
targets n spoiled = []
