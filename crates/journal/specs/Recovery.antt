-- A restart: what is read of the group that stands below, and what becomes of it.
use Rattle.std.specs.Prelude.{◌≡◌, ℕ, ◌+◌, ◌<◌, ◌≤◌, true, false, ◌⊎◌, List, [], length, take, Option, MatchBool, MatchOption, Result, MatchResult, ◌==◌, slice_index_or}
use Rattle.arrayvec.specs.ArrayVec.{ArrayVec}
use Rattle.device.specs.declared.DeviceFault.{DeviceFault}
use Rattle.device.specs.Meaning.{State, bytes, spoiled, Meaning, Alike}
use Rattle.device.specs.Numbers.{number}
use Rattle.device.specs.Promises.{Same, Lost}
use Rattle.device.specs.Calls.{Answer}
use Rattle.journal.specs.Entries.{Entry}
use Rattle.journal.specs.Waiting.{pages, blank}
use Rattle.journal.specs.Header.{header}
use Rattle.journal.specs.Standing.{above, whole, laid, Choice, Ends, home}
use Rattle.journal.specs.Order.{NoGroup}
use Rattle.journal.specs.Writing.{HeadReady}
use Rattle.journal.specs.Steps.{Settled, CutTo}

-- what a restart has from the device below, once that runs
pub record Awake (m : Meaning) : Type 0 where
  pub running : m.runs ≡ true
  pub room : 65 < m.count

-- the bytes that page p shows, or none where it is spoiled
abbrev pub Looked : Meaning → ℕ → Result (Option (List ℕ)) DeviceFault → Meaning → Type 0
Looked m p r n = MatchResult r (λ o. MatchOption o (m.shown p ≡ spoiled) (λ b. m.shown p ≡ bytes b) × Same m n) (λ e. (number e ≡ 11) × Lost m n)

-- the entries of the first k targets, each with its body
pub record LoadedTo (ts : List ℕ) (k : ℕ) (es : List Entry) (m n : Meaning) : Type 0 where
  pub same : Same m n
  pub named : pages es ≡ take k ts
  pub body : (i : ℕ) → i < length es → m.shown (1 + i) ≡ bytes (slice_index_or es i blank).bytes
  pub size : (i : ℕ) → i < length es → length (slice_index_or es i blank).bytes ≡ 252

-- the entries of all targets, or none where a body is spoiled
abbrev pub Loaded : List ℕ → Meaning → Answer → List Entry → Meaning → Type 0
Loaded ts m r es n =
    MatchResult r (λ _. ((es ≡ []) × (whole ts 1 m.shown ≡ false) × Same m n) ⊎ LoadedTo ts (length ts) es m n)
    (λ e. (number e ≡ 11) × Lost m n)

-- the targets that the header names
abbrev pub HeaderRead : (State → List ℕ) → Meaning → Result (ArrayVec ℕ) DeviceFault → Meaning → Type 0
HeaderRead T m r n = MatchResult r (λ t. (t.items ≡ T (m.shown 0)) × Same m n) (λ e. (number e ≡ 11) × Lost m n)

-- a group stands: its targets, each with its body
pub record FoundGroup (T : State → List ℕ) (m : Meaning) (es : List Entry) (n : Meaning) : Type 0 where
  pub some : 0 < length es
  pub group : LoadedTo (T (m.shown 0)) (length (T (m.shown 0))) es m n

-- the entries of the group that stands; no entry where none does
abbrev pub Found : (State → List ℕ) → Meaning → Answer → List Entry → Meaning → Type 0
Found T m r es n =
    MatchResult r (λ _. MatchBool (length es == 0) (NoGroup T m.shown × Same m n) (FoundGroup T m es n))
    (λ e. (number e ≡ 11) × Lost m n)

-- what clearing the header needs: nothing but what is shown may stand, and no group stands in it
pub record ClearReady (T : State → List ℕ) (m : Meaning) : Type 0 where
  pub head : HeadReady m
  pub broken : T spoiled ≡ []
  pub clear : T (bytes (header [])) ≡ []
  pub short : length (T (m.shown 0)) ≤ 64
  pub only : (p : ℕ) (s : State) → p < m.count → m.fates p s → s ≡ m.shown p
  pub none : NoGroup T m.shown

abbrev pub Cleared : (State → List ℕ) → Meaning → Answer → Meaning → Type 0
Cleared T m r n = MatchResult r (λ _. Settled T [] (home m) m n) (λ f. (number f ≡ 11) × CutTo T (λ e. Alike (above m.count) e (home m)) m n)

-- one choice of the fates below, with a standing group laid over it, is all that stands; cut, nothing that could not stand before
abbrev pub Recovered : (State → List ℕ) → Meaning → Answer → Meaning → Type 0
Recovered T m r n = MatchResult r (λ _. (f : ℕ → State) × Choice m f × Settled T [] (laid T f) m n) (λ f. (number f ≡ 11) × CutTo T (Ends T m) m n)
