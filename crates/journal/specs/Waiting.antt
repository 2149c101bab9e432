-- The written pages that wait in memory: entries, each a page's number above and its bytes.
use Rattle.std.specs.Prelude.{◌≡◌, ℕ, ◌<◌, ◌≤◌, Bool, true, false, cond, ◌⊎◌, List, [], ◌∷◌, length, MatchBool, Option, option_map, MatchResult, position, ◌==◌}
use Rattle.std.specs.List.{find}
use Rattle.device.specs.declared.DeviceFault.TheVariants.{TooManyWaiting}
use Rattle.device.specs.Meaning.{State, bytes, has}
use Rattle.device.specs.Calls.{Answer, lost}
use Rattle.journal.specs.Entries.{Entry}
use Rattle.journal.specs.declared.entries.Pending.{Pending}

-- each page with the bytes at its place
abbrev pub joined : List ℕ → List (List ℕ) → List Entry
joined [] bs = []
joined (p ∷ ps) [] = []
joined (p ∷ ps) (b ∷ bs) = record { page = p; bytes = b } ∷ joined ps bs

-- the entries that wait
abbrev pub waiting : Pending → List Entry
waiting p = joined p.pages.items p.bytes

-- what stands for an entry behind the last one
abbrev pub blank : Entry
blank = record { page = 0; bytes = [] }

-- the numbers of their pages
abbrev pub pages : List Entry → List ℕ
pages [] = []
pages (e ∷ es) = e.page ∷ pages es

-- what page i shows, where d is what its home page shows
abbrev pub held : List Entry → ℕ → State → State
held [] i d = d
held (e ∷ es) i d = cond (e.page == i) (bytes e.bytes) (held es i d)

-- each is of a page below n, and has a page's bytes
abbrev pub AllFit : ℕ → List Entry → Type 0
AllFit n [] = Unit {0}
AllFit n (e ∷ es) = (e.page < n) × (length e.bytes ≡ 252) × AllFit n es

-- the place of page p, if it waits
abbrev pub place : List Entry → ℕ → Option ℕ
place es p = position (λ e. e.page == p) es

-- the bytes with which page p waits, if it does
abbrev pub look_up : List Entry → ℕ → Option (List ℕ)
look_up es p = option_map (λ e. e.bytes) (find (λ e. e.page == p) es)

-- the entries with page p in its old place, or behind the others
abbrev pub with_page : List Entry → ℕ → List ℕ → List Entry
with_page [] p buf = record { page = p; bytes = buf } ∷ []
with_page (e ∷ es) p buf = cond (e.page == p) (record { page = p; bytes = buf } ∷ es) (e ∷ with_page es p buf)

-- page p was kept
pub record PutDone (es : List Entry) (p : ℕ) (buf : List ℕ) (es' : List Entry) : Type 0 where
  pub room : (has p (pages es) ≡ true) ⊎ (length es < 64)
  pub joins : es' ≡ with_page es p buf

-- page p does not wait, and 64 others do
pub record PutFull (es : List Entry) (p : ℕ) (es' : List Entry) : Type 0 where
  pub absent : has p (pages es) ≡ false
  pub full : 64 ≤ length es
  pub same : es' ≡ es

-- whether page p was kept, and what waits then
abbrev pub Put : List Entry → ℕ → List ℕ → Answer → List Entry → Type 0
Put es p buf r es' = MatchResult r (λ _. PutDone es p buf es') (λ e. (e ≡ TooManyWaiting) × PutFull es p es')

-- a call below that was answered 11 takes the journal down, and nothing waits; any other leaves it
abbrev pub Heard : Bool → Pending → Answer → Bool → Pending → Type 0
Heard up v r up' v' = MatchBool (lost r) ((up' ≡ false) × (waiting v' ≡ [])) ((up' ≡ up) × (waiting v' ≡ waiting v))

-- the journal runs after an accepted restart, and is down after another
abbrev pub Revived : Answer → Bool → Type 0
Revived r up = MatchResult r (λ _. up ≡ true) (λ _. up ≡ false)
