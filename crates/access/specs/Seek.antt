-- The record of a key in a map, and how it is handed out.
use Rattle.std.specs.Prelude.{ℕ, cond, List, [], ◌∷◌, ◌++◌, length, drop, Some, None, Option}
use Rattle.keys.specs.Rule.{Rule}
use Rattle.tree.specs.declared.classes.ClassRow.{ClassRow}
use Rattle.tree.specs.Classes.{row_at}
use Rattle.tree.specs.Maps.{Rec}
use Rattle.access.specs.declared.lookup.Found.{Found}

-- the record of the map m whose key is the same as k, if there is one
abbrev pub seek : Rule → List ℕ → List Rec → Option Rec
seek R k [] = None
seek R k (x ∷ m) = cond (R.same k x.key) (Some x) (seek R k m)

-- the letter of a class, by its row
abbrev pub letter_in : Option ClassRow → ℕ
letter_in None = 0
letter_in (Some row) = row.letter

-- what is told of a record: the letter of its class, its last day, and the length of its value
abbrev pub found_of : Rec → Found
found_of x = record { letter = letter_in (row_at x.class); last_day = x.last; length = length x.value }

abbrev pub told : Option Rec → Option Found
told None = None
told (Some x) = Some (found_of x)

-- the buffer then: the value at its front, and no byte behind it changed
abbrev pub filled : Option Rec → List ℕ → List ℕ
filled None buf = buf
filled (Some x) buf = x.value ++ drop (length x.value) buf
