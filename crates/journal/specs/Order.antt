-- What goes below in each call of a journal, for any device below it by its ghost members.
use Rattle.std.specs.Prelude.{◌≡◌, ℕ, ◌+◌, ◌<◌, true, false, ◌⊎◌, List, [], ◌++◌, length, Ok, Err, MatchBool, MatchResult, ◌==◌, nat_lt, slice_index_or}
use Rattle.device.specs.Meaning.{State, bytes, has, Meaning}
use Rattle.device.specs.Calls.{Answer, Call, reads, writes, syncs, restarts, discards, Step, always, lost}
use Rattle.journal.specs.declared.journal.Journal.{Journal}
use Rattle.journal.specs.Entries.{Entry}
use Rattle.journal.specs.Waiting.{waiting, blank, pages}
use Rattle.journal.specs.Standing.{above, whole}
use Rattle.journal.specs.Sending.{Makes, step1, step2, step3, step4}
use Rattle.journal.specs.Over.{reader, Agreeing}

-- a group stands in the image f: these entries, at least one, are its targets and its bodies
pub record Group (T : State → List ℕ) (f : ℕ → State) (es : List Entry) : Type 0 where
  pub some : 0 < length es
  pub named : pages es ≡ T (f 0)
  pub bodies : (i : ℕ) → i < length es → f (1 + i) ≡ bytes (slice_index_or es i blank).bytes

-- none stands there: the header names none, or a body is spoiled
abbrev pub NoGroup : (State → List ℕ) → (ℕ → State) → Type 0
NoGroup T f = (T (f 0) ≡ []) ⊎ (whole (T (f 0)) 1 f ≡ false)

-- what goes below in a restart once the device below was itself restarted and is x: steps 3 and 4, from the bodies of the group that stands
-- in what it shows; or step 4 alone, where none stands; or only reads, where power was lost before that was known
abbrev pub Restoring : {X : Type 0} → (X → Meaning) → (State → List ℕ) → X → Answer → X → Type 0
Restoring meaning T x r e =
    ((es : List Entry) × Group T (meaning x).shown es × Makes meaning (step3 es ++ step4) r x e)
    ⊎ ((NoGroup T (meaning x).shown × Makes meaning step4 r x e)
    ⊎ ((lost r ≡ true) × Makes meaning [] r x e))

-- what goes below in a restart: a restart first. Refused, nothing more goes below, and that is the answer; accepted, nothing more with no
-- page above
abbrev pub Restarting : {X : Type 0} → (X → Meaning) → X → Answer → X → Type 0
Restarting {X} meaning d r e =
    (a : Answer) × ((x : X) × Step restarts (meaning d) a (meaning x)
    × MatchResult a (λ _. MatchBool (above (meaning x).count == 0) ((r ≡ Ok tt) × (e ≡ x)) (Restoring meaning (reader (meaning x)) x r e)) (λ f. (r ≡ Err f) × (e ≡ x)))

-- what goes below in a sync of these entries: the four steps, or nothing where none waits
abbrev pub Syncing : {X : Type 0} → (X → Meaning) → List Entry → X → Answer → X → Type 0
Syncing meaning es d r e = MatchBool (nat_lt 0 (length es)) (Makes meaning (step1 es ++ (step2 es ++ (step3 es ++ step4))) r d e) (e ≡ d)

-- what goes below in a read of page p: nothing, or the one read of its home page; nothing where it waits
abbrev pub Reading : {X : Type 0} → (X → Meaning) → List Entry → ℕ → List ℕ → List ℕ → X → Answer → X → Type 0
Reading meaning es p buf buf' d r e = MatchBool (has p (pages es)) (e ≡ d) ((e ≡ d) ⊎ Step (reads (65 + p) buf buf') (meaning d) r (meaning e))

-- what goes below in a call k of the journal, answered r
abbrev pub Sends : {X : Type 0} → (X → Meaning) → Call → Journal X → Answer → Journal X → Type 0
Sends meaning (reads p buf buf') j r j' = Reading meaning (waiting j.pending) p buf buf' j.below r j'.below
Sends meaning (writes p buf) j r j' = j'.below ≡ j.below
Sends meaning syncs j r j' = MatchBool j.up (Syncing meaning (waiting j.pending) j.below r j'.below) (j'.below ≡ j.below)
Sends meaning restarts j r j' = Restarting meaning j.below r j'.below
Sends meaning discards j r j' = j'.below ≡ j.below

-- with no page above, only a restart goes below
abbrev pub Bare : {X : Type 0} → (X → Meaning) → Call → Journal X → Answer → Journal X → Type 0
Bare meaning k j r j' = above (meaning j.below).count ≡ 0 → MatchBool (always k) (Step restarts (meaning j.below) r (meaning j'.below)) (j'.below ≡ j.below)

abbrev pub Sending : {X : Type 0} → (X → Type 0) → (X → Meaning) → Call → Journal X → Answer → Journal X → Type 0
Sending agrees meaning k j r j' = Agreeing agrees meaning j → Sends meaning k j r j' × Bare meaning k j r j'
