-- The classes of records, and days. Day 0 is 1 January 2000.
use Rattle.std.specs.Prelude.{◌≡◌, ℕ, ◌+◌, Bool, cond, List, [], ◌∷◌, Some, None, Option, Result, MatchResult, nat_eq}
use Rattle.tree.specs.declared.classes.Class.{Class}
use Rattle.tree.specs.declared.classes.Class.TheVariants.{Scan, Mark, Draft}
use Rattle.tree.specs.declared.classes.ClassRow.{ClassRow}
use Rattle.tree.specs.declared.classes.NotListed.{NotListed}

-- scan entries: letter s, kept 730 days, a value to 64 bytes
abbrev pub scan : ClassRow
scan = record { class = 1; letter = 0x73; days = 730; longest = 64 }

-- marks: letter m, kept 3,650 days, a value to 24 bytes
abbrev pub mark : ClassRow
mark = record { class = 2; letter = 0x6D; days = 3650; longest = 24 }

-- drafts: letter d, kept 30 days, a value to 120 bytes
abbrev pub draft : ClassRow
draft = record { class = 3; letter = 0x64; days = 30; longest = 120 }

-- the row of a class
abbrev pub row : Class → ClassRow
row Scan = scan
row Mark = mark
row Draft = draft

-- a row for each class
abbrev pub classes : List ClassRow
classes = scan ∷ mark ∷ draft ∷ []

-- the first row that passes a test
abbrev pub first_row : (ClassRow → Bool) → List ClassRow → Option ClassRow
first_row test [] = None
first_row test (row ∷ rows) = cond (test row) (Some row) (first_row test rows)

-- the row of a class, by its letter
abbrev pub row_of : ℕ → Option ClassRow
row_of letter = first_row (λ row. nat_eq letter row.letter) classes

-- and by its number
abbrev pub row_at : ℕ → Option ClassRow
row_at number = first_row (λ row. nat_eq number row.class) classes

-- the class that has this row, or none where there is no row
abbrev pub ClassOf : Option ClassRow → Result Class NotListed → Type 0
ClassOf found r = MatchResult r (λ c. found ≡ Some (row c)) (λ _. found ≡ None)

-- the last day of a record of the class that is put on a day
abbrev pub last_day : ClassRow → ℕ → ℕ
last_day row day = day + row.days
