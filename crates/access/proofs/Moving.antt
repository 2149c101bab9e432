-- Writes of a group device, one after another.
use Rattle.std.proofs.Common.{◌≡◌, ℕ, ◌+◌, ◌<◌, ◌≤◌, true, List, length, Ok, Err, sym, refl, ◌∙◌, subst, inl, inr, ⊎_elim, arith, MatchResult}
use Rattle.std.proofs.lemmas.Bool.{both_ways}
use Rattle.device.specs.declared.DeviceFault.TheVariants.{NoSuchPage, BufferSize, PowerLost, PageSpoiled, TooManyWaiting}
use Rattle.device.specs.Meaning.{bytes, has, Meaning, Grouped, Sound}
use Rattle.device.specs.Numbers.{number}
use Rattle.device.specs.Calls.{Answer, writes, none, more}
use Rattle.device.specs.Clauses.{GroupDoes}
use Rattle.device.proofs.CallsLaws.{joined}
use Rattle.device.proofs.Waits.{one_more}
use Rattle.pages.specs.Reads.{Ready, Kept, Failed}
use Rattle.access.specs.Moves.{Room, Moved, Cut}

module _ {D : Type 0} (agrees : D → Type 0) (meaning : D → Meaning) (grouped : D → Grouped) where
  abbrev R : D → Type 0
  R = Ready agrees meaning grouped

  abbrev M : ℕ → (ℕ → Type 0) → D → D → Type 0
  M = Moved agrees meaning grouped

  abbrev C : D → D → Type 0
  C = Cut agrees meaning grouped

  -- ---- one write

  module _ (sound : (d : D) → agrees d → Sound (meaning d)) (d e : D) (p : ℕ) (buf : List ℕ) (a : R d) where
    write_done : (u : Unit {0}) → GroupDoes agrees meaning grouped (writes p buf) d (Ok u) e → M 1 (λ i. i ≡ p) d e × ((meaning e).shown p ≡ bytes buf)
    write_done u f =
        let q = f a.below in
        let w = q.means.0 in (
          record {
            ready = record { below = q.agrees; group = q.sound a.group; runs = w.ran.still };
            count = w.ran.count;
            others = w.others;
            base = q.means.1;
            joins = w.joins;
            more = one_more (meaning d).waits (meaning e).waits p (sound e q.agrees).apart w.joins;
            calls = more (writes p buf) (Ok u) e none a.runs q.means;
          },
          w.here,
        )

    write_lost : GroupDoes agrees meaning grouped (writes p buf) d (Err PowerLost) e → C d e
    write_lost f =
        let q = f a.below in
        record {
          below = q.agrees;
          group = q.sound a.group;
          left = q.means.0.left;
          ends = λ x y. let z = q.means.1 x y in λ i h. z.2 i h ∙ a.group.only_end a.runs z.0 z.1 i h;
          calls = more (writes p buf) (Err PowerLost) e none a.runs q.means;
        }

    -- a write of a page below the count, for which there is room, is refused by 11 alone
    pub write_moves : (r : Answer) → GroupDoes agrees meaning grouped (writes p buf) d r e → p < (meaning d).count → Room p (meaning d) → length buf ≡ 252
        → MatchResult r (λ _. M 1 (λ i. i ≡ p) d e × ((meaning e).shown p ≡ bytes buf)) (λ f. (number f ≡ 11) × C d e)
    write_moves (Ok u) f h room size = write_done u f
    write_moves (Err NoSuchPage) f h room size = absurd (omega (arith, (f a.below).means.0.past))
    write_moves (Err BufferSize) f h room size = absurd ((f a.below).means.0.size size)
    write_moves (Err PowerLost) f h room size = (refl, write_lost f)
    write_moves (Err PageSpoiled) f h room size = absurd (f a.below).means.0
    write_moves (Err TooManyWaiting) f h room size =
        let w = (f a.below).means.0 in
        absurd (⊎_elim (λ x. both_ways (has p (meaning d).waits) w.new x) (λ x. omega (arith, w.full)) room)

  -- ---- one after another

  pub moved_none : (k : ℕ) (P : ℕ → Type 0) (d : D) → R d → M k P d d
  moved_none k P d a = record { ready = a; count = refl; others = λ i h n. refl; base = λ i h. refl; joins = λ i w. inl w; more = omega arith; calls = none }

  pub moved_on : (j k l : ℕ) (P Q S : ℕ → Type 0) (d e f : D) → j + k ≤ l → ((i : ℕ) → P i → S i) → ((i : ℕ) → Q i → S i) → M j P d e → M k Q e f → M l S d f
  moved_on j k l P Q S d e f h p q a b =
      let to : (i : ℕ) → i < (meaning d).count → i < (meaning e).count = λ i x. subst (λ c. i < c) (sym a.count) x in
      record {
        ready = b.ready;
        count = b.count ∙ a.count;
        others = λ i x n. b.others i (to i x) (λ y. n (q i y)) ∙ a.others i x (λ y. n (p i y));
        base = λ i x. b.base i (to i x) ∙ a.base i x;
        joins = λ i w. ⊎_elim (λ x. ⊎_elim inl (λ y. inr (p i y)) (a.joins i x)) (λ y. inr (q i y)) (b.joins i w);
        more = omega (arith, a.more, b.more);
        calls = joined a.calls b.calls;
      }

  pub cut_on : (j : ℕ) (P : ℕ → Type 0) (d e f : D) → M j P d e → C e f → C d f
  cut_on j P d e f a b =
      let to : (i : ℕ) → i < (meaning d).count → i < (meaning e).count = λ i x. subst (λ c. i < c) (sym a.count) x in
      record {
        below = b.below;
        group = b.group;
        left = record { count = b.left.count ∙ a.count; down = b.left.down };
        ends = λ g x i h. b.ends g x i (to i h) ∙ a.base i h;
        calls = joined a.calls b.calls;
      }

  -- reads move nothing
  pub kept_moved : (j k : ℕ) (P : ℕ → Type 0) (d e : D) → Kept agrees meaning grouped j d e → M k P d e
  kept_moved j k P d e a = record {
    ready = a.ready;
    count = a.same.count;
    others = λ i h n. a.same.shown i h;
    base = a.group.base;
    joins = λ i w. inl (subst (λ (l : List ℕ). has i l ≡ true) a.same.waits w);
    more = subst (λ (l : List ℕ). length l ≤ length (meaning d).waits + k) (sym a.same.waits) (omega arith);
    calls = a.calls;
  }

  pub failed_cut : (j : ℕ) (d e : D) → R d → Failed agrees meaning grouped j d e → C d e
  failed_cut j d e r a = record {
    below = a.below;
    group = a.group;
    left = a.lost.left;
    ends = λ f x i h. let z = a.ends f x in z.2 i h ∙ r.group.only_end r.runs z.0 z.1 i h;
    calls = a.calls;
  }
