-- Images that hold a map, and a store that agrees with a book, when the device has only been read.
use Rattle.std.proofs.Common.{◌≡◌, ℕ, ◌<◌, ◌≤◌, true, List, sym, refl, ap, ◌∙◌, subst, inl, inr, arith}
use Rattle.device.specs.declared.DeviceFault.{DeviceFault}
use Rattle.device.specs.declared.DeviceFault.TheVariants.{PowerLost}
use Rattle.device.specs.Meaning.{State, Meaning, Grouped, Alike, has}
use Rattle.device.specs.Numbers.{number}
use Rattle.device.specs.GroupPromises.{NoEnd}
use Rattle.device.proofs.Faults.{eleven}
use Rattle.keys.specs.Rule.{Rule}
use Rattle.tree.specs.Maps.{Rec}
use Rattle.pages.specs.Images.{shows, root_in}
use Rattle.pages.specs.Reads.{Ready, Kept, Failed}
use Rattle.pages.proofs.Readings.{only_pages}
use Rattle.store.specs.declared.kinds.Phase.{Phase}
use Rattle.store.specs.declared.kinds.Phase.TheVariants.{Stopped, Idle, Open}
use Rattle.store.specs.Book.{Book, map_at, stopped}
use Rattle.store.specs.Agree.{Keeps, MayStand, Running, InPhase, Agrees}

pub alike_back : {n : ℕ} {e f : ℕ → State} → Alike n e f → Alike n f e
alike_back a i h = sym (a i h)

-- a device fault of number 11 is a loss of power
pub lost_by : (f : DeviceFault) → number f ≡ 11 → (P : DeviceFault → Type 0) → P PowerLost → P f
lost_by f h P x = subst P (sym (eleven f h)) x

module _ (R : Rule) where
  -- only the pages below the count matter
  pub keeps_alike : (n limit : ℕ) (e f : ℕ → State) (m : List Rec) → 0 < n → Alike n e f → Keeps R n limit e m → Keeps R n limit f m
  keeps_alike n limit e f m p a k = record {
    formed = only_pages R n e f m a k.formed;
    limits = ap (λ s. (root_in (shows s)).limit) (sym (a 0 p)) ∙ k.limits;
  }

  pub may_alike : (n : ℕ) (b : Book) (e f : ℕ → State) → 0 < n → Alike n e f → MayStand R n b e → MayStand R n b f
  may_alike n b e f p a (inl k) = inl (keeps_alike n b.limit e f b.known p a k)
  may_alike n b e f p a (inr k) = inr (k.0, k.1, keeps_alike n b.limit e f k.0 p a k.2)

  -- what a store that runs shows
  pub in_shown : (b : Book) (m : Meaning) (g : Grouped) (p : Phase) → (p ≡ Stopped → ⊥) → InPhase R p b m g → (m.runs ≡ true) × Keeps R m.count b.limit m.shown (map_at b p)
  in_shown b m g Stopped up s = absurd (up refl)
  in_shown b m g Idle up s = (s.runs, s.shown)
  in_shown b m g Open up s = (s.runs, s.shown)

module _ {D : Type 0} (R : Rule) (agrees : D → Type 0) (meaning : D → Meaning) (grouped : D → Grouped) where
  abbrev pub A : Book → Phase → ℕ → ℕ → D → Type 0
  A b ph ct ch d = Agrees R b ph ct ch (agrees d) (meaning d) (grouped d)

  pub ready_of : (b : Book) (ph : Phase) (ct ch : ℕ) (d : D) → A b ph ct ch d → (ph ≡ Stopped → ⊥) → Ready agrees meaning grouped d
  ready_of b ph ct ch d a up = record {
    below = a.below;
    group = a.group;
    runs = (in_shown R b (meaning d) (grouped d) b.phase (λ e. up (a.phases ∙ e)) a.state).0;
  }

  -- ---- reads

  module _ (k : ℕ) (d e : D) where
    running_kept : (b : Book) (m : List Rec) (ch : ℕ) → 0 < (meaning d).count → Kept agrees meaning grouped k d e → Running R b m ch (meaning d) (grouped d) → Running R b m ch (meaning e) (grouped e)
    running_kept b m ch p a r = record {
      runs = a.ready.runs;
      base = subst (λ n. Keeps R n b.limit (grouped e).base b.known) (sym a.same.count) (keeps_alike R (meaning d).count b.limit (grouped d).base (grouped e).base b.known p (alike_back a.group.base) r.base);
      shown = subst (λ n. Keeps R n b.limit (meaning e).shown m) (sym a.same.count) (keeps_alike R (meaning d).count b.limit (meaning d).shown (meaning e).shown m p (alike_back a.same.shown) r.shown);
      settled = r.settled;
      few = (r.few.0, r.few.1, λ i w. r.few.2 i (subst (λ (l : List ℕ). has i l ≡ true) a.same.waits w));
    }

    phase_kept : (b : Book) (ph : Phase) → 0 < (meaning d).count → Kept agrees meaning grouped k d e → InPhase R ph b (meaning d) (grouped d) → InPhase R ph b (meaning e) (grouped e)
    phase_kept b Stopped p a s = a.same.runs ∙ s
    phase_kept b Idle p a s = running_kept b b.known 0 p a s
    phase_kept b Open p a s = running_kept b b.working b.changes p a s

    -- an image that might stand before
    pub ends_kept : (b : Book) → 0 < (meaning d).count → (meaning e).count ≡ (meaning d).count → NoEnd (meaning d).count (grouped d) (grouped e) → ((f : ℕ → State) → (grouped d).ends f → MayStand R (meaning d).count b f)
        → (f : ℕ → State) → (grouped e).ends f → MayStand R (meaning e).count b f
    ends_kept b p c none old f x =
        let z = none f x in
        subst (λ n. MayStand R n b f) (sym c) (may_alike R (meaning d).count b z.0 f p (alike_back z.2) (old z.0 z.1))

    -- a store whose device was only read agrees as before
    pub agrees_kept : (b : Book) (ph : Phase) (ct ch : ℕ) → Kept agrees meaning grouped k d e → A b ph ct ch d → A b ph ct ch e
    agrees_kept b ph ct ch a s =
        let p : 0 < (meaning d).count = omega (arith, s.pages) in
        record {
          below = a.ready.below;
          group = a.ready.group;
          pages = subst (λ n. 6 ≤ n) (sym a.same.count) s.pages;
          phases = s.phases;
          counters = s.counters;
          counted = s.counted;
          ends = ends_kept b p a.same.count a.group.no_more s.ends;
          state = phase_kept b b.phase p a s.state;
        }

    -- power was lost in a read
    pub agrees_failed : (b : Book) (ph : Phase) (ct ch : ℕ) → Failed agrees meaning grouped k d e → A b ph ct ch d → A (stopped b b.pending) Stopped ct ch e
    agrees_failed b ph ct ch a s = record {
      below = a.below;
      group = a.group;
      pages = subst (λ n. 6 ≤ n) (sym a.lost.left.count) s.pages;
      phases = refl;
      counters = s.counters;
      counted = s.counted;
      ends = ends_kept b (omega (arith, s.pages)) a.lost.left.count a.ends s.ends;
      state = a.lost.left.down;
    }
