-- What a cache means by the device below it, when it agrees with that device, and what an answer from there makes of its memory.
use Rattle.std.specs.Prelude.{◌≡◌, ℕ, ◌<◌, ◌≤◌, Bool, true, false, cond, ◌⊎◌, List, length, is_ok, is_some, Err, MatchBool, MatchResult}
use Rattle.std.specs.Option.{unwrap_or}
use Rattle.device.specs.Meaning.{bytes, Meaning, Sound}
use Rattle.device.specs.Calls.{Answer, Call, reads, writes, syncs, restarts, discards, lost}
use Rattle.cache.specs.declared.table.Table.{Table}
use Rattle.cache.specs.declared.memory.Memory.{Memory}
use Rattle.cache.specs.Slots.{Slots, At, Empty, Keeps, no_page}

-- a cache runs while it has a table
abbrev pub up : Memory → Bool
up s = is_some s.table

-- the pages that it keeps; while it is down it keeps none
abbrev pub table_of : Memory → Table
table_of s = unwrap_or s.table no_page

-- the meaning below, but that the layer runs only once it is itself restarted
abbrev pub under : Bool → Meaning → Meaning
under up m = record { count = m.count; runs = up; shown = m.shown; fates = m.fates; waits = m.waits }

-- what is kept is what the device below shows, and no page is kept twice
pub record Faithful (slots : Slots) (m : Meaning) : Type 0 where
  pub shows : (i p : ℕ) (bs : List ℕ) → At slots i p bs → m.shown p ≡ bytes bs
  pub within : (i p : ℕ) (bs : List ℕ) → At slots i p bs → p < m.count
  pub once : (i j p : ℕ) (bs bs' : List ℕ) → At slots i p bs → At slots j p bs' → i ≡ j

-- until all eight slots are in use the circle waits at slot 0
pub record Ordered (t : Table) : Type 0 where
  pub few : length t.slots.items ≤ 8
  pub start : (length t.slots.items ≡ 8) ⊎ (t.next ≡ 0)

-- down, and nothing is kept
pub record Fresh (s : Memory) : Type 0 where
  pub down : up s ≡ false
  pub empty : Empty (table_of s)

-- a cache agrees with the device below: while it runs so does that device
pub record Agrees (s : Memory) (m : Meaning) : Type 0 where
  pub below : up s ≡ true → m.runs ≡ true
  pub ordered : Ordered (table_of s)
  pub faithful : Faithful (table_of s).slots.items m

pub under_sound : (up : Bool) (m : Meaning) → (up ≡ true → m.runs ≡ true) → Sound m → Sound (under up m)
under_sound up m b s = record {
  some_fate = s.some_fate;
  shown_fate = λ r. s.shown_fate (b r);
  sized = s.sized;
  few = λ r. s.few (b r);
  apart = s.apart;
  pages = s.pages;
}

-- after an answer r from below: 11 takes the cache down, and any other leaves it
abbrev pub Heard : Memory → Answer → Memory → Type 0
Heard s r s' = MatchBool (lost r) (Fresh s') (s' ≡ s)

-- after a read or a write of page p, which now has these bytes: it is kept where the call was accepted
abbrev pub Noted : ℕ → List ℕ → Memory → Answer → Memory → Type 0
Noted p bs s r s' = MatchResult r (λ _. (up s' ≡ up s) × Keeps (table_of s) p bs (table_of s')) (λ e. Heard s (Err e) s')

-- after a restart: nothing is kept, and the cache runs where it was accepted
pub record Revived (r : Answer) (s' : Memory) : Type 0 where
  pub up : up s' ≡ is_ok r
  pub empty : Empty (table_of s')

-- after a discard: nothing is kept, and 11 takes the cache down
pub record Forgot (s : Memory) (r : Answer) (s' : Memory) : Type 0 where
  pub up : up s' ≡ cond (lost r) false (up s)
  pub empty : Empty (table_of s')

-- after a call that went below
abbrev pub After : Call → Memory → Answer → Memory → Type 0
After (reads p buf buf') s r s' = Noted p buf' s r s'
After (writes p buf) s r s' = Noted p buf s r s'
After syncs s r s' = Heard s r s'
After restarts s r s' = Revived r s'
After discards s r s' = Forgot s r s'
