-- A chain of calls that heard no 11 leaves a device running that ran.
use Rattle.std.proofs.Common.{◌≡◌, Bool, true, false, eqb, Ok, Err, refl, ◌∙◌}
use Rattle.std.proofs.lemmas.Bool.{both_ways, eq-eqb}
use Rattle.device.specs.declared.DeviceFault.TheVariants.{NoSuchPage, BufferSize, PowerLost, PageSpoiled, TooManyWaiting}
use Rattle.device.specs.Meaning.{Meaning}
use Rattle.device.specs.Numbers.{number}
use Rattle.device.specs.Calls.{Answer, Call, reads, writes, syncs, restarts, discards, Step, lost, none, more, DeviceCalls}

-- one call
step_still : (k : Call) (m n : Meaning) (r : Answer) → lost r ≡ false → Step k m r n → m.runs ≡ true → n.runs ≡ true
step_still (reads p buf buf') m n (Ok _) f s t = s.same.runs ∙ t
step_still (reads p buf buf') m n (Err NoSuchPage) f s t = s.1.same.runs ∙ t
step_still (reads p buf buf') m n (Err BufferSize) f s t = s.1.same.runs ∙ t
step_still (reads p buf buf') m n (Err PowerLost) f s t = absurd (both_ways true f refl)
step_still (reads p buf buf') m n (Err PageSpoiled) f s t = s.1.same.runs ∙ t
step_still (reads p buf buf') m n (Err TooManyWaiting) f s t = absurd s.1
step_still (writes p buf) m n (Ok _) f s t = s.ran.still
step_still (writes p buf) m n (Err NoSuchPage) f s t = s.same.runs ∙ t
step_still (writes p buf) m n (Err BufferSize) f s t = s.same.runs ∙ t
step_still (writes p buf) m n (Err PowerLost) f s t = absurd (both_ways true f refl)
step_still (writes p buf) m n (Err PageSpoiled) f s t = absurd s
step_still (writes p buf) m n (Err TooManyWaiting) f s t = s.same.runs ∙ t
step_still syncs m n (Ok _) f s t = s.ran.still
step_still syncs m n (Err e) f s t = absurd (both_ways (eqb (number e) 11) f (eq-eqb (number e) 11 s.0))
step_still restarts m n (Ok _) f s t = s.ran.still
step_still restarts m n (Err e) f s t = absurd (both_ways (eqb (number e) 11) f (eq-eqb (number e) 11 s.0))
step_still discards m n r f s t = absurd s

module _ {D : Type 0} (meaning : D → Meaning) where
  chain_still : {heard : Bool} {a e : D} → heard ≡ false → DeviceCalls meaning heard a e → (meaning a).runs ≡ true → (meaning e).runs ≡ true
  chain_still f none t = t
  chain_still f (more {d = d} k r e q al s) t = step_still k (meaning d) (meaning e) r f s (chain_still refl q t)

  pub calls_still : {a e : D} → DeviceCalls meaning false a e → (meaning a).runs ≡ true → (meaning e).runs ≡ true
  calls_still c t = chain_still refl c t
