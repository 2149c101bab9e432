-- One call of a store, by its phase and its event.
use Rattle.std.proofs.Common.{◌≡◌, ℕ, Bool, false, cond, List, [], ◌∷◌, length, Ok, Err, Result, refl, ap, subst, arith}
use Rattle.device.specs.Meaning.{Meaning, Grouped}
use Rattle.keys.specs.Rule.{Rule}
use Rattle.store.specs.declared.kinds.Phase.{Phase}
use Rattle.store.specs.declared.kinds.Phase.TheVariants.{Stopped}
use Rattle.store.specs.declared.kinds.Call.{Call}
use Rattle.store.specs.declared.kinds.Call.TheVariants.{Get, Recover}
use Rattle.store.specs.declared.kinds.Answer.{Answer}
use Rattle.store.specs.declared.kinds.Answer.TheVariants.{Done, Got}
use Rattle.store.specs.declared.kinds.StoreFault.{StoreFault}
use Rattle.store.specs.declared.store.Store.{Store}
use Rattle.store.specs.Replies.{Event, get, event_of, Reply, refused, replied, eleven}
use Rattle.store.specs.Clauses.{after, Alone}
use Rattle.store.specs.Book.{Book, Turns, ruled, answered}

-- a book that is stopped answers 12 to all but a recover
pub stopped_turns : (R : Rule) (b : Book) (c : Call) (buf : List ℕ) → (c ≡ Recover → ⊥) → b.phase ≡ Stopped → Turns R b (event_of c) buf (refused 12 0) buf b
stopped_turns R b (Get k) buf other e = record { told = answered; fair = tt; is = ap (λ (p : Phase). ruled R b p (get k.now) buf) e }
stopped_turns R b Recover buf other e = absurd (other refl)

-- and so does the store, which is not touched
pub stopped_rests : {D K : Type 0} (R : Rule) (agrees : D → Type 0) (meaning : D → Meaning) (grouped : D → Grouped) (s : Store D K) (c : Call) (buf : List ℕ) → (c ≡ Recover → ⊥)
    → Alone R agrees meaning grouped (event_of c) s buf (refused 12 0) buf s
stopped_rests R agrees meaning grouped s (Get k) buf other = λ e. (refl, refl, refl)
stopped_rests R agrees meaning grouped s Recover buf other = absurd (other refl)

-- an answer that was no refusal is not 11
pub not_eleven : (r : Result Answer StoreFault) → ((f : StoreFault) → r ≡ Err f → ⊥) → eleven (replied r) ≡ false
not_eleven (Ok Done) other = refl
not_eleven (Ok (Got f)) other = refl
not_eleven (Err f) other = absurd (other f refl)

-- a store that was not answered 11 is as it was left
pub after_other : {D K : Type 0} (a : Reply) (s : Store D K) → eleven a ≡ false → after a s ≡ s
after_other a s e = ap (λ (t : Bool). record { device = s.device; phase = cond t Stopped s.phase; counter = s.counter; changes = s.changes; rule = s.rule }) e

-- a call with no buffer, under its event
pub unbuffered : (e e' : Event) (buf : List ℕ) → e ≡ e' → length buf ≡ 0 → (P : Event → List ℕ → Type 0) → P e buf → P e' []
unbuffered e e' [] q l P x = subst (λ (y : Event). P y []) q x
unbuffered e e' (y ∷ ys) q l P x = absurd (omega arith)
