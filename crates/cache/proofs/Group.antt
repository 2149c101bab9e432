-- A cache over a group device: base and ends are those below.
use Rattle.std.proofs.Common.{◌≡◌, Bool, true, false, ◌||◌, Ok, Err, MatchBool, ◌∙◌}
use Rattle.std.proofs.lemmas.Bool.{both_ways, eq-eqb, cond-true, MatchBool-at_true}
use Rattle.device.specs.declared.DeviceFault.{DeviceFault}
use Rattle.device.specs.Meaning.{Meaning, Grouped, SoundGroup}
use Rattle.device.specs.Numbers.{number}
use Rattle.device.specs.GroupPromises.{Settles, Restores, Discard}
use Rattle.device.specs.Calls.{Answer, Call, reads, writes, syncs, restarts, discards, GroupStep, always, lost}
use Rattle.device.proofs.Whens.{when_true}
use Rattle.cache.specs.declared.memory.Memory.{Memory}
use Rattle.cache.specs.Keeping.{up, under, Agrees, Forgot, After}
use Rattle.cache.proofs.Layer.{under_lost, under_ran, step_under, agrees_after, empty_agrees}

-- a sound group above is sound below, where both run, and the other way round
group_down : (up : Bool) (m : Meaning) (g : Grouped) → up ≡ true → SoundGroup (under up m) g → SoundGroup m g
group_down up m g t s = record { some_end = s.some_end; base_ends = λ _. s.base_ends t; only_end = λ _. s.only_end t }

group_up : (up : Bool) (m : Meaning) (g : Grouped) → (up ≡ true → m.runs ≡ true) → SoundGroup m g → SoundGroup (under up m) g
group_up up m g b s = record { some_end = s.some_end; base_ends = λ t. s.base_ends (b t); only_end = λ t. s.only_end (b t) }

pub sound_under : (k : Call) (up up' : Bool) (m n : Meaning) (g h : Grouped) → (always k || up) ≡ true → (up' ≡ true → n.runs ≡ true)
    → MatchBool (always k) (SoundGroup n h) (SoundGroup m g → SoundGroup n h) → MatchBool (always k) (SoundGroup (under up' n) h) (SoundGroup (under up m) g → SoundGroup (under up' n) h)
sound_under (reads p buf buf') up up' m n g h t b s = λ x. group_up up' n h b (s (group_down up m g t x))
sound_under (writes p buf) up up' m n g h t b s = λ x. group_up up' n h b (s (group_down up m g t x))
sound_under syncs up up' m n g h t b s = λ x. group_up up' n h b (s (group_down up m g t x))
sound_under restarts up up' m n g h t b s = group_up up' n h b s
sound_under discards up up' m n g h t b s = λ x. group_up up' n h b (s (group_down up m g t x))

settles_under : (up : Bool) (m : Meaning) (g h : Grouped) (r : Answer) → up ≡ true → m.runs ≡ true → Settles m g r h → Settles (under up m) g r h
settles_under up m g h (Ok _) t b l = l
settles_under up m g h (Err e) t b l = when_true up _ _ t (MatchBool-at_true _ _ b l)

restores_under : (up up' : Bool) (m n : Meaning) (g h : Grouped) (r : Answer) → Restores m g r n h → Restores (under up m) g r (under up' n) h
restores_under up up' m n g h (Ok _) l = record { one = l.one; base = l.base }
restores_under up up' m n g h (Err e) l = l

-- a call that goes below
module _ (s s' : Memory) (m n : Meaning) (g h : Grouped) where
  forgot_down : (e : DeviceFault) → number e ≡ 11 → Forgot s (Err e) s' → up s' ≡ false
  forgot_down e x a = a.up ∙ cond-true (lost (Err e)) false (up s) (eq-eqb (number e) 11 x)

  discard_under : (r : Answer) → up s ≡ true → Discard m g r n h → Forgot s r s' → Discard (under (up s) m) g r (under (up s') n) h
  discard_under (Ok _) t d a = record { running = t; ran = under_ran (up s) (up s') m n (a.up ∙ t) d.ran; shown = d.shown; base = d.base; fates = d.fates; waits = d.waits }
  discard_under (Err e) t d a = (d.0, under_lost (up s) (up s') m n (forgot_down e d.0 a) d.1, d.2)

  discard_agrees : (r : Answer) → Discard m g r n h → Forgot s r s' → Agrees s' n
  discard_agrees (Ok _) d a = empty_agrees s' n (λ _. d.ran.still) a.empty
  discard_agrees (Err e) d a = empty_agrees s' n (λ t. absurd (both_ways (up s') (forgot_down e d.0 a) t)) a.empty

  module _ (b : Agrees s m) (r : Answer) where
    pub group_under : (k : Call) → (always k || up s) ≡ true → GroupStep k m g r n h → After k s r s' → GroupStep k (under (up s) m) g r (under (up s') n) h
    group_under (reads p buf buf') t d a = (step_under s s' m n (reads p buf buf') r t d.0 a, d.1)
    group_under (writes p buf) t d a = (step_under s s' m n (writes p buf) r t d.0 a, d.1)
    group_under syncs t d a = (step_under s s' m n syncs r t d.0 a, settles_under (up s) m g h r t (b.below t) d.1)
    group_under restarts t d a = (step_under s s' m n restarts r t d.0 a, restores_under (up s) (up s') m n g h r d.1)
    group_under discards t d a = discard_under r t d a

    pub group_agrees : (k : Call) → (always k || up s) ≡ true → GroupStep k m g r n h → After k s r s' → Agrees s' n
    group_agrees (reads p buf buf') t d a = agrees_after s s' m n b (reads p buf buf') r t d.0 a
    group_agrees (writes p buf) t d a = agrees_after s s' m n b (writes p buf) r t d.0 a
    group_agrees syncs t d a = agrees_after s s' m n b syncs r t d.0 a
    group_agrees restarts t d a = agrees_after s s' m n b restarts r t d.0 a
    group_agrees discards t d a = discard_agrees r d a
