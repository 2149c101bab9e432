-- A restart of the journal, from what recovery leaves below.
use Rattle.std.proofs.Common.{◌≡◌, ℕ, ◌+◌, ◌<◌, Bool, List, [], Ok, Err, sym, refl, ap, ◌∙◌, inl, ⊎_elim, arith}
use Rattle.std.proofs.lemmas.Bool.{both_ways}
use Rattle.device.specs.Meaning.{State, Meaning, Sound}
use Rattle.device.specs.Calls.{Answer, restarts}
use Rattle.journal.specs.Entries.{Entry}
use Rattle.journal.specs.Standing.{above, laid, home}
use Rattle.journal.specs.Waiting.{Revived}
use Rattle.journal.specs.Steps.{bodies, Settled}
use Rattle.journal.specs.Recovery.{Recovered}
use Rattle.journal.proofs.Crash.{bodies_ends}
use Rattle.journal.proofs.Going.{Went}
use Rattle.journal.proofs.Reading.{agrees_down}

pub recovered_count : (T : State → List ℕ) (m n : Meaning) (r : Answer) → Recovered T m r n → n.count ≡ m.count
recovered_count T m n r d = grind arith

module _ (T : State → List ℕ) (up : Bool) (es : List Entry) (m n : Meaning) (sn : Sound n) (up' : Bool) where
  -- what the home pages show is what the group lays
  home_laid : (f : ℕ → State) → Settled T [] (laid T f) m n → (i : ℕ) → 65 + i < n.count → home n i ≡ laid T f i
  home_laid f d i h = (d.idle (65 + i) (n.shown (65 + i)) h (sn.shown_fate d.ran.still (65 + i) h)).home i refl

  pub went_restart : (r : Answer) → Revived r up' → Recovered T m r n → Went restarts T up es m r up' [] n
  went_restart (Ok _) u (f, c, d) = record {
    agrees = record {
      below = λ _. d.ran.still;
      quiet = λ _. d.waits;
      idle = λ _ p s h y. let k = d.idle p s h y in record { head = k.head; body = λ j e g. tt; home = λ i e. k.home i e ∙ sym (home_laid f d i (omega arith)) };
      few = omega arith;
      apart = tt;
      fit = tt;
    };
    means = (
      record {
        ran = record { count = ap above d.ran.count; still = u };
        shown = λ i h. inl (laid T f, (f, c, λ j g. refl), sym (at i h));
        only = λ i s h y. ⊎_elim (λ z. sym z.2 ∙ bodies_ends T [] (bodies []) (laid T f) n d.idle z.0 z.1 i (let k = d.ran.count in omega arith) ∙ sym (at i h)) (λ z. z.1) y;
        waits = refl;
      },
      record { one = (laid T f, (f, c, λ j g. refl), at); base = λ i h. refl },
    );
  }
    where
      at : (i : ℕ) → i < above m.count → home n i ≡ laid T f i
      at i h = home_laid f d i (let k = d.ran.count in omega arith)
  went_restart (Err e) u d = record {
    agrees = agrees_down T up' [] n u refl;
    means = (
      (
        d.0,
        record {
          left = record { count = ap above d.1.left.count; down = u };
          fates = λ i s h y. ⊎_elim (λ z. inl (z.0, d.1.ends z.0 z.1, z.2)) (λ z. absurd (both_ways up' u z.0)) y;
        },
      ),
      λ e x. (e, d.1.ends e x, λ i h. refl),
    );
  }
