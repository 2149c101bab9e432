-- What the checks before a read or a write say of a device: one that they refuse does nothing, and is answered so.
use Rattle.std.proofs.Common.{◌≡◌, ℕ, Bool, List, length, Err, MatchBool, refl, inl, arith}
use Rattle.device.specs.declared.DeviceFault.{DeviceFault}
use Rattle.device.specs.declared.DeviceFault.TheVariants.{NoSuchPage, BufferSize, PowerLost, PageSpoiled, TooManyWaiting}
use Rattle.device.specs.Meaning.{Meaning}
use Rattle.device.specs.Numbers.{number}
use Rattle.device.specs.Promises.{Read, Write}
use Rattle.device.specs.Calls.{Answer, Call, lost, Calls, none}
use Rattle.device.specs.Gate.{Refuses}
use Rattle.device.proofs.Meanings.{same_self, lost_self}
use Rattle.device.proofs.Whens.{either_way, when_false}

module _ (count p : ℕ) (buf : List ℕ) (m : Meaning) (is : count ≡ m.count) where
  pub gate_read : (e : DeviceFault) → Refuses count p (length buf) m.runs (number e) → Read m p buf (Err e) buf m
  gate_read NoSuchPage a = (refl, record { past = omega arith; same = same_self m })
  gate_read BufferSize a = (refl, record { within = let h = a.0 in omega arith; size = a.1; same = same_self m })
  gate_read PowerLost a = (refl, record { passes = record { within = let h = a.0 in omega arith; size = a.1 }; lost = lost_self m a.2 })
  gate_read PageSpoiled a = absurd a
  gate_read TooManyWaiting a = absurd a

  pub gate_write : (e : DeviceFault) → Refuses count p (length buf) m.runs (number e) → Write m p buf (Err e) m
  gate_write NoSuchPage a = record { past = omega arith; same = same_self m }
  gate_write BufferSize a = record { within = let h = a.0 in omega arith; size = a.1; same = same_self m }
  gate_write PowerLost a = record { passes = record { within = let h = a.0 in omega arith; size = a.1 }; left = record { count = refl; down = a.2 }; gains = λ i s h x. inl x }
  gate_write PageSpoiled a = absurd a
  gate_write TooManyWaiting a = absurd a

-- a layer that refuses a call makes none below, and answers 11 only while it is down
pub gate_calls : {X : Type 0} (runs : X → Bool) (step : Call → X → Answer → X → Type 0) (count p len : ℕ) (up : Bool) (d : X) (e : DeviceFault)
    → Refuses count p len up (number e) → MatchBool up (Calls runs step (lost (Err e)) d d) (d ≡ d)
gate_calls runs step count p len up d NoSuchPage a = either_way up _ _ none refl
gate_calls runs step count p len up d BufferSize a = either_way up _ _ none refl
gate_calls runs step count p len up d PowerLost a = when_false up _ _ a.2 refl
gate_calls runs step count p len up d PageSpoiled a = absurd a
gate_calls runs step count p len up d TooManyWaiting a = absurd a
