-- The calls of a cache: one that is passed on, one that is refused, and a read of a page that is kept.
use Rattle.std.proofs.Common.{◌≡◌, ℕ, ◌<◌, Bool, true, false, cond, ◌||◌, List, [], length, Ok, Err, sym, refl, arith}
use Rattle.std.proofs.lemmas.Bool.{both_ways, cond-true}
use Rattle.device.specs.declared.DeviceFault.{DeviceFault}
use Rattle.device.specs.declared.DeviceFault.TheVariants.{NoSuchPage, BufferSize, PowerLost, PageSpoiled, TooManyWaiting}
use Rattle.device.specs.Meaning.{Meaning, Grouped, has}
use Rattle.device.specs.Numbers.{number}
use Rattle.device.specs.Promises.{Read}
use Rattle.device.specs.Calls.{Answer, Call, reads, writes, syncs, restarts, discards, always, lost, Calls, none, Over}
use Rattle.device.specs.Clauses.{Does, GroupDoes}
use Rattle.device.specs.Gate.{Refuses}
use Rattle.device.proofs.CallsLaws.{one}
use Rattle.device.proofs.Meanings.{same_self}
use Rattle.device.proofs.Whens.{when_true, either_way}
use Rattle.cache.specs.declared.cache.Cache.{Cache}
use Rattle.cache.specs.declared.memory.Memory.{Memory}
use Rattle.cache.specs.Slots.{At, Absent}
use Rattle.cache.specs.Order.{kept}
use Rattle.cache.specs.Keeping.{up, table_of, After}
use Rattle.cache.specs.Over.{cached, Agreeing, Doing, GroupDoing, Calling, GroupCalling, Keeping, Resting}
use Rattle.cache.proofs.OrderLaws.{at_kept, absent_kept}
use Rattle.cache.proofs.Layer.{step_under, agrees_after, down_empty, empty_kept, kept_after}
use Rattle.cache.proofs.Group.{group_under, group_agrees, sound_under}

-- a call that the cache passes on is one that it may make
allowed : (k : Call) (up runs : Bool) → (always k || up) ≡ true → (up ≡ true → runs ≡ true) → (always k || runs) ≡ true
allowed (reads p buf buf') up runs t b = b t
allowed (writes p buf) up runs t b = b t
allowed syncs up runs t b = b t
allowed restarts up runs t b = refl
allowed discards up runs t b = b t

module _ {X : Type 0} (agrees : X → Type 0) (meaning : X → Meaning) (c : Cache X) where
  -- what a call promises, over a device and over a group device
  abbrev All : Call → Answer → Cache X → Type 0
  All k r c' = Doing agrees meaning k c r c' × Calling agrees meaning k c r c' × Keeping agrees meaning k c r c'

  abbrev GroupAll : (X → Grouped) → Call → Answer → Cache X → Type 0
  GroupAll grouped k r c' = GroupDoing agrees meaning grouped k c r c' × GroupCalling agrees meaning grouped k c r c' × Keeping agrees meaning k c r c'

  -- the cache passes the call k on, which leaves x below and is answered r; its memory is then s
  module _ (k : Call) (r : Answer) (x : X) (s : Memory) (go : (always k || up c.memory) ≡ true) (told : After k c.memory r s) where
    abbrev then : Cache X
    then = record { below = x; memory = s }

    chained : (step : Call → X → Answer → X → Type 0) → Agreeing agrees meaning c → step k c.below r x → Over (Calls (λ v. (meaning v).runs) step) k (up c.memory) c.below r x
    chained step h y = when_true (always k || (up c.memory)) _ _ go (one k r x (allowed k (up c.memory) (meaning c.below).runs go h.1.below) y)

    keeping : Keeping agrees meaning k c r then
    keeping h = kept_after c.memory s (meaning c.below) h.1 k r told

    pub passed : Does agrees meaning k c.below r x → All k r then
    passed d = (
      λ h. let y = d h.0 in record {
        agrees = (y.agrees, agrees_after c.memory s (meaning c.below) (meaning x) h.1 k r go y.means told);
        means = step_under c.memory s (meaning c.below) (meaning x) k r go y.means told;
      },
      λ h. chained _ h (d h.0).means,
      keeping,
    )

    pub group_passed : (grouped : X → Grouped) → GroupDoes agrees meaning grouped k c.below r x → GroupAll grouped k r then
    group_passed grouped d = (
      λ h.
          let y = d h.0 in
          let w = group_agrees c.memory s (meaning c.below) (meaning x) (grouped c.below) (grouped x) h.1 r k go y.means told in
          record {
            agrees = (y.agrees, w);
            means = group_under c.memory s (meaning c.below) (meaning x) (grouped c.below) (grouped x) h.1 r k go y.means told;
            sound = sound_under k (up c.memory) (up s) (meaning c.below) (meaning x) (grouped c.below) (grouped x) go w.below y.sound;
          },
      λ h. chained _ h (d h.0).means,
      keeping,
    )

  -- a cache that is down keeps nothing
  pub down_kept : up c.memory ≡ false → kept (table_of c.memory) ≡ []
  down_kept d = empty_kept (table_of c.memory) (down_empty c.memory d)

  -- nor does the memory change where the checks refuse a call
  pub refused_kept : (count p len : ℕ) (e : DeviceFault) → Refuses count p len (up c.memory) (number e) → kept (table_of c.memory) ≡ cond (lost (Err e)) [] (kept (table_of c.memory))
  refused_kept count p len NoSuchPage a = refl
  refused_kept count p len BufferSize a = refl
  refused_kept count p len PowerLost a = down_kept a.2
  refused_kept count p len PageSpoiled a = absurd a
  refused_kept count p len TooManyWaiting a = absurd a

  module _ (count p : ℕ) (buf : List ℕ) (is : count ≡ (meaning c.below).count) where
    -- a kept page is read with no call below
    module _ (within : p < count) (size : length buf ≡ 252) (t : up c.memory ≡ true) (i : ℕ) (bs : List ℕ) (at : At (table_of c.memory).slots.items i p bs) where
      kept_means : Agreeing agrees meaning c → Read (cached meaning c) p buf (Ok tt) bs (cached meaning c)
      kept_means h = record { passes = record { within = omega arith; size = size }; running = t; value = h.1.faithful.shows i p bs at; same = same_self (cached meaning c) }

      kept_stays : Keeping agrees meaning (reads p buf bs) c (Ok tt) c
      kept_stays h = sym (cond-true (has p (kept (table_of c.memory))) _ _ (at_kept (table_of c.memory) i p bs at))

      pub kept_read : All (reads p buf bs) (Ok tt) c
      kept_read = (λ h. record { agrees = h; means = kept_means h }, λ h. either_way (up c.memory) _ _ none refl, kept_stays)

      pub group_kept_read : (grouped : X → Grouped) → GroupAll grouped (reads p buf bs) (Ok tt) c
      group_kept_read grouped = (λ h. record { agrees = h; means = (kept_means h, λ j q. refl); sound = λ s. s }, λ h. either_way (up c.memory) _ _ none refl, kept_stays)

  -- a cache that is as it was, and one that does not keep the page
  pub same_still : (p : ℕ) → Resting agrees meaning p c c
  same_still p h k = refl

  pub absent_still : (p : ℕ) (c' : Cache X) → Absent (table_of c.memory).slots.items p → Resting agrees meaning p c c'
  absent_still p c' a h k = absurd (both_ways (has p (kept (table_of c.memory))) (absent_kept (table_of c.memory) p a) k)
