-- The slots of a cache's table, of which there are at most eight.
use Rattle.std.specs.Prelude.{◌≡◌, ℕ, suc, ◌+◌, ◌%◌, ◌<◌, Bool, List, [], ◌∷◌, ◌++◌, length, take, drop, Some, ◌==◌, slice_get}
use Rattle.cache.specs.declared.table.Kept.{Kept}
use Rattle.cache.specs.declared.table.Table.{Table}

abbrev pub Slots : Type 0
Slots = List Kept

-- a slot keeps page p
abbrev pub keeps_page : ℕ → Kept → Bool
keeps_page p k = k.page == p

-- slot i keeps page p with these bytes
pub record At (slots : Slots) (i p : ℕ) (bs : List ℕ) : Type 0 where
  pub holds : slice_get slots i ≡ Some (record { page = p; bytes = bs })

-- no slot keeps page p
abbrev pub Absent : Slots → ℕ → Type 0
Absent slots p = (i : ℕ) (bs : List ℕ) → At slots i p bs → ⊥

-- the slots with k in slot i, which may be a further one after the last
abbrev pub put : {A : Type 0} → List A → ℕ → A → List A
put slots i k = take i slots ++ k ∷ drop (suc i) slots

-- page p goes to slot i, after which slot n is given up next: a page that is kept stays where it is; another goes to a further slot; where
-- all eight are in use it goes to the one that is given up, and the circle moves on by one
pub data Placed (t : Table) (p i n : ℕ) : Type 0 where
  stays : (bs : List ℕ) → At t.slots.items i p bs → n ≡ t.next → Placed t p i n
  fills : Absent t.slots.items p → i ≡ length t.slots.items → i < 8 → n ≡ t.next → Placed t p i n
  ousts : Absent t.slots.items p → length t.slots.items ≡ 8 → i ≡ t.next % 8 → n ≡ (i + 1) % 8 → Placed t p i n

-- the table after page p is kept with these bytes
abbrev pub Keeps : Table → ℕ → List ℕ → Table → Type 0
Keeps t p bs t' = (i : ℕ) × Placed t p i t'.next × (t'.slots.items ≡ put t.slots.items i (record { page = p; bytes = bs }))

-- the table as it is made: nothing is kept, and the circle begins at slot 0
abbrev pub no_page : Table
no_page = record { slots = record { items = [] }; next = 0 }

abbrev pub Empty : Table → Type 0
Empty t = t ≡ no_page
