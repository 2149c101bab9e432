-- Which calls go below, and in which order.
use Rattle.std.specs.Prelude.{◌≡◌, ℕ, suc, ◌+◌, Bool, List, [], ◌∷◌, ◌++◌, Ok, Err, Result, MatchResult}
use Rattle.device.specs.declared.DeviceFault.{DeviceFault}
use Rattle.device.specs.Meaning.{Meaning}
use Rattle.device.specs.Calls.{Answer, Call, reads, writes, syncs, restarts, discards, lost, Calls, none, more, DeviceCalls}
use Rattle.journal.specs.Entries.{Entry}
use Rattle.journal.specs.declared.places.Area.{Area}
use Rattle.journal.specs.declared.places.Area.TheVariants.{Body, Home}
use Rattle.journal.specs.Waiting.{pages}
use Rattle.journal.specs.Header.{header}

-- a call, unless it is a read
abbrev pub unread : Call → List Call
unread (reads p buf buf') = []
unread (writes p buf) = writes p buf ∷ []
unread syncs = syncs ∷ []
unread restarts = restarts ∷ []
unread discards = discards ∷ []

-- the calls of a chain but for its reads, in their order
abbrev pub changes : {D : Type 0} {runs : D → Bool} {step : Call → D → Answer → D → Type 0} {heard : Bool} {a e : D} → Calls runs step heard a e → List Call
changes none = []
changes (more k r e c al s) = changes c ++ unread k

-- xs is the front part of ys
abbrev pub Front : List Call → List Call → Type 0
Front xs ys = (zs : List Call) × (xs ++ zs ≡ ys)

-- calls lead from the device d to e, 11 is answered exactly if one of them was answered 11, and but for reads they are the plan: the whole
-- of it if the answer r accepts, and otherwise its front part, up to the call that was refused
abbrev pub Makes : {D : Type 0} → (D → Meaning) → List Call → Answer → D → D → Type 0
Makes meaning plan r d e = (c : DeviceCalls meaning (lost r) d e) × MatchResult r (λ _. changes c ≡ plan) (λ _. Front (changes c) plan)

-- an answer without the value that comes with it
abbrev pub bare : {A : Type 0} → Result A DeviceFault → Answer
bare (Ok _) = Ok tt
bare (Err e) = Err e

-- the page below that entry j, of page p above, is written to: body j, or its home page
abbrev pub page_of : Area → ℕ → ℕ → ℕ
page_of Body j p = 1 + j
page_of Home j p = 65 + p

-- the entries from the j-th on, each written to its page
abbrev pub placed : Area → ℕ → List Entry → List Call
placed area j [] = []
placed area j (e ∷ es) = writes (page_of area j e.page) e.bytes ∷ placed area (suc j) es

-- the entries as bodies or at their home pages, and a sync
abbrev pub settling : Area → List Entry → List Call
settling area es = placed area 0 es ++ syncs ∷ []

-- a header, and a sync
abbrev pub heading : List ℕ → List Call
heading page = writes 0 page ∷ syncs ∷ []

-- the four steps of a sync: the bodies, the header that names them, the home pages, the header that names none, each with a sync
abbrev pub step1 : List Entry → List Call
step1 es = settling Body es

abbrev pub step2 : List Entry → List Call
step2 es = heading (header (pages es))

abbrev pub step3 : List Entry → List Call
step3 es = settling Home es

abbrev pub step4 : List Call
step4 = heading (header [])
