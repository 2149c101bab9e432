-- Ends, after a call that gained no fate below.
use Rattle.std.proofs.Common.{◌≡◌, ℕ, List, arith}
use Rattle.device.specs.Meaning.{State, Meaning}
use Rattle.device.specs.Promises.{NoGain}
use Rattle.journal.specs.Standing.{Ends}

pub ends_from : (T : State → List ℕ) (m n : Meaning) → n.count ≡ m.count → NoGain m n → (e : ℕ → State) → Ends T n e → Ends T m e
ends_from T m n c g e (f, ch, a) = (f, λ i h. g i (f i) h (ch i (omega arith)), λ i h. a i (omega arith))
