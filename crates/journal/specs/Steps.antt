-- The steps of a sync on the device below, by what it means before and after.
use Rattle.std.specs.Prelude.{◌≡◌, ℕ, ◌-◌, ◌<◌, ◌⊎◌, List, [], MatchResult, slice_index_or}
use Rattle.device.specs.Meaning.{State, bytes, spoiled, Meaning, Alike}
use Rattle.device.specs.Numbers.{number}
use Rattle.device.specs.Promises.{Down, Ran}
use Rattle.device.specs.Calls.{Answer}
use Rattle.journal.specs.Entries.{Entry}
use Rattle.journal.specs.declared.places.Area.TheVariants.{Home}
use Rattle.journal.specs.Waiting.{blank, pages}
use Rattle.journal.specs.Header.{header}
use Rattle.journal.specs.Standing.{above, Ends}
use Rattle.journal.specs.Crash.{Within, fresh, Bodies, Laying}
use Rattle.journal.specs.Writing.{Ready}

-- the bodies of these entries, from page 1 on
abbrev pub bodies : List Entry → ℕ → State
bodies es k = bytes (slice_index_or es (k - 1) blank).bytes

-- T reads the targets of a header: none of a spoiled or a clear one, and those of these entries
pub record Reads (T : State → List ℕ) (es : List Entry) : Type 0 where
  pub broken : T spoiled ≡ []
  pub clear : T (bytes (header [])) ≡ []
  pub named : T (bytes (header (pages es))) ≡ pages es

-- the image, and nothing else, stands below
pub record Settled (T : State → List ℕ) (es : List Entry) (image : ℕ → State) (m n : Meaning) : Type 0 where
  pub ran : Ran m n
  pub waits : n.waits ≡ []
  pub idle : Within n (Bodies T (pages es) (bodies es) image)

-- power was lost, and every end is one of these
pub record CutTo (T : State → List ℕ) (Image : (ℕ → State) → Type 0) (m n : Meaning) : Type 0 where
  pub left : Down m n
  pub ends : (e : ℕ → State) → Ends T n e → Image e

-- what steps 3 and 4 need: a header that stands, and its bodies
pub record LayReady (T : State → List ℕ) (es : List Entry) (base : ℕ → State) (m : Meaning) : Type 0 where
  pub reads : Reads T es
  pub ready : Ready Home es m
  pub quiet : m.waits ≡ []
  pub room : 65 < m.count
  pub laying : Within m (Laying T (pages es) (bodies es) base)

-- steps 3 and 4 leave the new image only, cut or not
abbrev pub Finished : (State → List ℕ) → List Entry → (ℕ → State) → Meaning → Answer → Meaning → Type 0
Finished T es base m r n =
    MatchResult r (λ _. Settled T es (fresh (pages es) (bodies es) base) m n)
    (λ f. (number f ≡ 11) × CutTo T (λ e. Alike (above m.count) e (fresh (pages es) (bodies es) base)) m n)

-- what a sync of these entries needs
pub record CommitReady (T : State → List ℕ) (es : List Entry) (base : ℕ → State) (m : Meaning) : Type 0 where
  pub reads : Reads T es
  pub homes : Ready Home es m
  pub quiet : m.waits ≡ []
  pub room : 65 < m.count
  pub idle : Within m (Bodies T (pages es) (bodies es) base)

-- the whole sync: the new image, or, cut, the old base or the new image
abbrev pub Committed : (State → List ℕ) → List Entry → (ℕ → State) → Meaning → Answer → Meaning → Type 0
Committed T es base m r n =
    MatchResult r (λ _. Settled T es (fresh (pages es) (bodies es) base) m n)
    (λ f. (number f ≡ 11) × CutTo T (λ e. Alike (above m.count) e base ⊎ Alike (above m.count) e (fresh (pages es) (bodies es) base)) m n)
