-- Calls and answers of a store, in the numbers and values that stand for them.
use Rattle.std.specs.Prelude.{ℕ, Bool, false, List, Option, None, Some, Ok, Err, Result, ◌==◌}
use Rattle.device.specs.Numbers.{number}
use Rattle.pages.specs.Images.{number_of}
use Rattle.pages.specs.declared.root.Condition.{Condition}
use Rattle.pages.specs.declared.fault.CheckFault.{CheckFault}
use Rattle.pages.specs.declared.fault.CheckFault.TheVariants.{Broken, Device as Faulty}
use Rattle.access.specs.declared.lookup.Found.{Found}
use Rattle.store.specs.declared.kinds.StoreFault.{StoreFault}
use Rattle.store.specs.declared.kinds.StoreFault.TheVariants.{KeyNotValid, ShortBuffer, NotRunning, KeyAbsent, TooFewPages, NotWellFormed, Device}
use Rattle.store.specs.declared.kinds.Call.{Call}
use Rattle.store.specs.declared.kinds.Call.TheVariants.{Get, Recover}
use Rattle.store.specs.declared.kinds.Answer.{Answer}
use Rattle.store.specs.declared.kinds.Answer.TheVariants.{Done, Got}

-- a call with its arguments
pub data Event : Type 0 where
  get : List ℕ → Event
  recover : Event

abbrev pub event_of : Call → Event
event_of (Get key) = get key.now
event_of Recover = recover

-- an answer: accepted; found, with the letter of the class, the last day and the length of the value; refused, with a number, and with 21 also that of the lowest broken condition (else 0)
pub data Reply : Type 0 where
  done : Reply
  got : ℕ → ℕ → ℕ → Reply
  refused : ℕ → ℕ → Reply

-- the number of each refusal
abbrev pub refusal : StoreFault → ℕ
refusal KeyNotValid = 3
refusal ShortBuffer = 5
refusal NotRunning = 12
refusal KeyAbsent = 16
refusal TooFewPages = 20
refusal (NotWellFormed c) = 21
refusal (Device f) = number f

-- the refusal that a check's fault becomes
abbrev pub refused_check : CheckFault → StoreFault
refused_check (Broken c) = NotWellFormed c
refused_check (Faulty f) = Device f

-- the number of a condition; 0 for none
abbrev pub condition_number : Option Condition → ℕ
condition_number None = 0
condition_number (Some c) = number_of c

-- the number of the broken condition
abbrev pub broken : StoreFault → ℕ
broken KeyNotValid = 0
broken ShortBuffer = 0
broken NotRunning = 0
broken KeyAbsent = 0
broken TooFewPages = 0
broken (NotWellFormed c) = number_of c
broken (Device f) = 0

abbrev pub refused_by : StoreFault → Reply
refused_by f = refused (refusal f) (broken f)

-- the answer that a result stands for: of a call of any kind, of one that is only accepted, of a get
abbrev pub replied : Result Answer StoreFault → Reply
replied (Ok Done) = done
replied (Ok (Got f)) = got f.letter f.last_day f.length
replied (Err f) = refused_by f

abbrev pub done_or : Result (Unit {0}) StoreFault → Reply
done_or (Ok u) = done
done_or (Err f) = refused_by f

abbrev pub got_or : Result Found StoreFault → Reply
got_or (Ok f) = got f.letter f.last_day f.length
got_or (Err f) = refused_by f

-- the answer is 11
abbrev pub eleven : Reply → Bool
eleven done = false
eleven (got l d n) = false
eleven (refused k c) = k == 11

-- the answers that each call can have
abbrev pub Shaped : Event → Result Answer StoreFault → Type 0
Shaped e (Err f) = Unit {0}
Shaped (get k) (Ok Done) = ⊥
Shaped (get k) (Ok (Got f)) = Unit {0}
Shaped recover (Ok Done) = Unit {0}
Shaped recover (Ok (Got f)) = ⊥
