-- The pages that a cache keeps, oldest first.
use Rattle.std.specs.Prelude.{ℕ, ◌-◌, ◌%◌, cond, List, [], ◌∷◌, ◌++◌, map, length, take, drop, Ok, Err}
use Rattle.device.specs.Meaning.{has}
use Rattle.device.specs.Calls.{Answer, Call, reads, writes, syncs, restarts, discards, lost}
use Rattle.cache.specs.declared.table.Kept.{Kept}
use Rattle.cache.specs.declared.table.Table.{Table}

-- the pages that are in the slots
abbrev pub pages : List Kept → List ℕ
pages = map (λ k. k.page)

-- a row read round from its place n
abbrev pub round : {A : Type 0} → ℕ → List A → List A
round n xs = drop n xs ++ take n xs

-- the pages that are kept, oldest first: round the circle from the slot that is given up next
unfoldable pub kept : Table → List ℕ
kept t = round (t.next % 8) (pages t.slots.items)

-- the last eight
abbrev pub newest : List ℕ → List ℕ
newest ps = drop (length ps - 8) ps

-- page p was read or written: one that is kept stays in its place, any other joins at the end, and for a ninth the oldest leaves
abbrev pub joined : ℕ → List ℕ → List ℕ
joined p ps = cond (has p ps) ps (newest (ps ++ p ∷ []))

-- the pages that are kept after a read or a write of page p, by its answer
abbrev pub touched : ℕ → Answer → List ℕ → List ℕ
touched p (Ok _) ps = joined p ps
touched p (Err e) ps = cond (lost (Err e)) [] ps

-- the pages that are kept after a call, by its answer
abbrev pub keeps : Call → Answer → List ℕ → List ℕ
keeps (reads p buf buf') r ps = touched p r ps
keeps (writes p buf) r ps = touched p r ps
keeps syncs r ps = cond (lost r) [] ps
keeps restarts r ps = []
keeps discards r ps = []
