-- A group that stands in an image of the device below, what it lays over the home pages, and what the journal means.
use Rattle.std.specs.Prelude.{◌≡◌, ℕ, suc, ◌+◌, ◌-◌, ◌<◌, min, Bool, true, false, cond, ◌&&◌, ◌⊎◌, List, [], ◌∷◌, ◌==◌}
use Rattle.device.specs.Meaning.{State, bytes, spoiled, Meaning, Grouped, Alike}
use Rattle.journal.specs.Entries.{Entry}
use Rattle.journal.specs.Waiting.{pages, held}

-- how many pages there are above, over a device of so many
abbrev pub above : ℕ → ℕ
above count = min 65535 (count - 65)

abbrev pub is_bytes : State → Bool
is_bytes (bytes _) = true
is_bytes spoiled = false

-- the bodies of these targets, from page j on, are not spoiled
abbrev pub whole : List ℕ → ℕ → (ℕ → State) → Bool
whole [] j f = true
whole (t ∷ ts) j f = is_bytes (f j) && whole ts (suc j) f

-- page i, with the bodies from page j on laid over it
abbrev pub over : List ℕ → ℕ → (ℕ → State) → ℕ → State → State
over [] j f i d = d
over (t ∷ ts) j f i d = cond (t == i) (f j) (over ts (suc j) f i d)

-- the image above that an image f below gives, where T reads the targets that a header names (none, if it is not by layout)
abbrev pub laid : (State → List ℕ) → (ℕ → State) → ℕ → State
laid T f i = cond (whole (T (f 0)) 1 f) (over (T (f 0)) 1 f i (f (65 + i))) (f (65 + i))

-- a choice of fates below
abbrev pub Choice : Meaning → (ℕ → State) → Type 0
Choice m f = (i : ℕ) → i < m.count → m.fates i (f i)

-- the ends: what each choice of fates below gives
abbrev pub Ends : (State → List ℕ) → Meaning → (ℕ → State) → Type 0
Ends T m e = (f : ℕ → State) × Choice m f × Alike (above m.count) e (laid T f)

-- the base: what the home pages show
abbrev pub home : Meaning → ℕ → State
home m i = m.shown (65 + i)

-- base and ends of the journal over a device that means m
abbrev pub journal_group : (State → List ℕ) → Meaning → Grouped
journal_group T m = record { base = home m; ends = Ends T m }

-- the meaning of the journal over a device that means m, where it is up or not and these entries wait
abbrev pub journal : (State → List ℕ) → Bool → List Entry → Meaning → Meaning
journal T up es m = record {
  count = above m.count;
  runs = up;
  shown = λ i. held es i (home m i);
  fates = λ i s. ((e : ℕ → State) × Ends T m e × (e i ≡ s)) ⊎ ((up ≡ true) × (s ≡ held es i (home m i)));
  waits = pages es;
}
