-- The header is cleared where no group stands.
use Rattle.std.proofs.Common.{ℕ, ◌+◌, List, [], ap, ◌∙◌, inl, inr, ⊎_elim, arith}
use Rattle.device.specs.Meaning.{State, Meaning, Alike}
use Rattle.device.specs.Promises.{WriteDone, SyncDone}
use Rattle.journal.specs.Header.{header}
use Rattle.journal.specs.Standing.{above, Ends, home}
use Rattle.journal.specs.Crash.{Within, Naming}
use Rattle.journal.specs.Writing.{HeadLost}
use Rattle.journal.specs.Steps.{Settled, CutTo}
use Rattle.journal.specs.Recovery.{ClearReady}
use Rattle.journal.proofs.Crash.{within_write, bodies_ends}
use Rattle.journal.proofs.Finish.{head_only, fewer}
use Rattle.journal.proofs.Restarted.{broken_ends}

module _ (T : State → List ℕ) (m : Meaning) (cr : ClearReady T m) where
  -- the header may stand yet, or be cleared
  abbrev Old : ℕ → State → Type 0
  Old = Naming T (T (m.shown 0)) m.shown (home m)

  old : Within m Old
  old p s h x = let k = cr.only p s h x in record {
    head = λ z. inr (ap T (k ∙ ap m.shown z));
    body = λ j z l g. k ∙ ap m.shown z;
    home = λ i z. k ∙ ap m.shown z;
  }

  old_ends : (n : Meaning) → Within n Old → (e : ℕ → State) → Ends T n e → Alike (above n.count) e (home m)
  old_ends n w = ⊎_elim
      (λ z. bodies_ends T [] m.shown (home m) n (λ p s h x. let k = w p s h x in record {
        head = λ y. ⊎_elim (λ a. a) (λ a. a ∙ z) (k.head y);
        body = λ j y l. tt;
        home = k.home;
      }))
      (λ z. broken_ends T (T (m.shown 0)) m.shown (home m) n cr.short z w)
      cr.none

  pub cleared_lost : (q : Meaning) → HeadLost (header []) m q → CutTo T (λ e. Alike (above m.count) e (home m)) m q
  cleared_lost q x = record {
    left = x.left;
    ends = λ e y. fewer m q e _ x.left.count
        (old_ends q (within_write m q Old 0 (header []) x.left.count x.gains (head_only _ _ _ _ (inl cr.clear)) (head_only _ _ _ _ (inl cr.broken)) old) e y);
  }

  pub cleared_done : (q : Meaning) → WriteDone m 0 (header []) q → (t : Meaning) → SyncDone q t → Settled T [] (home m) m t
  cleared_done q wd t x = let c = x.ran.count in let d = wd.ran.count in record {
    ran = record { count = c ∙ d; still = x.ran.still };
    waits = x.waits;
    idle = λ p s h y. let k = x.only p s (omega arith) y in record {
      head = λ z. ap T (k ∙ ap q.shown z ∙ wd.here) ∙ cr.clear;
      body = λ j z l. tt;
      home = λ i z. k ∙ ap q.shown z ∙ wd.others (65 + i) (omega arith) (λ v. omega arith);
    };
  }
