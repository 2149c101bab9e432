-- An empty store is made: a restart, writes, a sync.
use Rattle.std.proofs.Common.{◌≡◌, ℕ, ◌<◌, ◌≤◌, true, false, eqb, Ok, Err, sym, refl, ◌∙◌, subst, arith, MatchResult}
use Rattle.std.proofs.lemmas.Bool.{eq-eqb}
use Rattle.device.specs.declared.DeviceFault.{DeviceFault}
use Rattle.device.specs.Meaning.{Meaning, Grouped}
use Rattle.device.specs.Numbers.{number}
use Rattle.device.specs.Calls.{Answer, syncs, restarts, none, more, GroupCalls}
use Rattle.device.specs.Clauses.{GroupDoes}
use Rattle.device.proofs.CallsLaws.{joined}
use Rattle.pages.specs.Formats.{Empty}
use Rattle.pages.specs.Reads.{Ready}
use Rattle.access.specs.Moves.{Moved, Cut, Made, Broken}

module _ {D : Type 0} (agrees : D → Type 0) (meaning : D → Meaning) (grouped : D → Grouped) where
  -- a call that was refused by 11 ends a chain that heard it
  heard : {d e : D} (f : DeviceFault) → number f ≡ 11 → GroupCalls meaning grouped (eqb (number f) 11) d e → GroupCalls meaning grouped true d e
  heard {d} {e} f h c = subst (λ b. GroupCalls meaning grouped b d e) (eq-eqb (number f) 11 h) c

  -- ---- the restart

  pub restarted : (d e : D) (u : Unit {0}) → agrees d → GroupDoes agrees meaning grouped restarts d (Ok u) e → Ready agrees meaning grouped e
  restarted d e u a f = let q = f a in record { below = q.agrees; group = q.sound; runs = q.means.0.ran.still }

  pub restart_calls : (d e : D) (u : Unit {0}) → agrees d → GroupDoes agrees meaning grouped restarts d (Ok u) e → GroupCalls meaning grouped false d e
  restart_calls d e u a f = more restarts (Ok u) e none refl (f a).means

  pub restart_broken : (d e : D) (x : DeviceFault) → agrees d → GroupDoes agrees meaning grouped restarts d (Err x) e → (number x ≡ 11) × Broken agrees meaning grouped d e
  restart_broken d e x a f =
      let q = f a in
      let l = q.means.0 in
      (l.0, record { below = q.agrees; left = l.1.left; calls = heard x l.0 (more restarts (Err x) e none refl q.means) })

  -- ---- the rest, from a device e to which a restart led from d

  module _ (d e : D) (to : GroupCalls meaning grouped false d e) (count : (meaning e).count ≡ (meaning d).count) where
    pub write_broken : (f : D) → Cut agrees meaning grouped e f → Broken agrees meaning grouped d f
    write_broken f c = record { below = c.below; left = record { count = c.left.count ∙ count; down = c.left.down }; calls = joined to c.calls }

    pub sync_made : (kind limit k : ℕ) (P : ℕ → Type 0) (f h : D) (r : Answer) → 6 ≤ (meaning d).count → Moved agrees meaning grouped k P e f → Empty kind limit (meaning f).shown
        → GroupDoes agrees meaning grouped syncs f r h
        → MatchResult r (λ _. Made agrees meaning grouped kind limit d h) (λ x. (number x ≡ 11) × Broken agrees meaning grouped d h)
    sync_made kind limit k P f h (Ok u) six m empty s =
        let q = s m.ready.below in
        let w = q.means.0 in
        let c : (meaning f).count ≡ (meaning d).count = m.count ∙ count in
        record {
          ready = record { below = q.agrees; group = q.sound m.ready.group; runs = w.ran.still };
          count = w.ran.count ∙ c;
          empty = λ i l. w.shown i (omega (arith, l, six, c)) ∙ empty i l;
          base = λ i l. let l' = subst (λ n. i < n) (sym c) l in q.means.1 i l' ∙ sym (w.shown i l');
          waits = w.waits;
          calls = joined to (joined m.calls (more syncs (Ok u) h none m.ready.runs q.means));
        }
    sync_made kind limit k P f h (Err x) six m empty s =
        let q = s m.ready.below in
        let l = q.means.0 in (
          l.0,
          record {
            below = q.agrees;
            left = record { count = l.1.left.count ∙ (m.count ∙ count); down = l.1.left.down };
            calls = joined to (joined m.calls (heard x l.0 (more syncs (Err x) h none m.ready.runs q.means)));
          },
        )
