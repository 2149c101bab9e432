-- Bytes written in hex, two digits a byte, the higher first.
use Rattle.std.specs.Prelude.{ℕ, ◌+◌, ◌*◌, ◌<◌, Bool, ◌&&◌, List, [], ◌∷◌, length, ◌==◌, nat_le, slice_index}
use Rattle.std.specs.Char.{digit_value}

-- a word begins with 0 (48) and x (120)
abbrev pub marked : List ℕ → Bool
marked w = nat_le 2 (length w) && (slice_index w 0 == 48 && slice_index w 1 == 120)

-- an even number of hex digits
abbrev pub Hex : List ℕ → Type 0
Hex [] = Unit {0}
Hex (a ∷ []) = ⊥
Hex (a ∷ b ∷ ds) = (digit_value a < 16) × (digit_value b < 16) × Hex ds

-- the bytes that they write
abbrev pub written : List ℕ → List ℕ
written [] = []
written (a ∷ []) = []
written (a ∷ b ∷ ds) = (16 * digit_value a + digit_value b) ∷ written ds
