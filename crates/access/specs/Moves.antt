-- Calls of a group device that write pages, and what they leave.
use Rattle.std.specs.Prelude.{◌≡◌, ℕ, ◌+◌, ◌<◌, ◌≤◌, true, false, ◌⊎◌, [], length, Result, MatchResult}
use Rattle.device.specs.declared.DeviceFault.{DeviceFault}
use Rattle.device.specs.Meaning.{State, has, Meaning, Grouped, SoundGroup, Alike}
use Rattle.device.specs.Numbers.{number}
use Rattle.device.specs.Promises.{Down}
use Rattle.device.specs.Calls.{GroupCalls}
use Rattle.pages.specs.Reads.{Ready}
use Rattle.pages.specs.Formats.{Empty}

-- page p may be written: it waits already, or fewer than 64 pages wait
abbrev pub Room : ℕ → Meaning → Type 0
Room p m = (has p m.waits ≡ true) ⊎ (length m.waits < 64)

-- a group device, by its ghost members
module _ {D : Type 0} (agrees : D → Type 0) (meaning : D → Meaning) (grouped : D → Grouped) where
  -- after calls of which none was answered 11, at most k of them writes, all to pages of P: every other page shows what it did, and the base stays
  pub record Moved (k : ℕ) (P : ℕ → Type 0) (d e : D) : Type 0 where
    pub ready : Ready agrees meaning grouped e
    pub count : (meaning e).count ≡ (meaning d).count
    pub others : (i : ℕ) → i < (meaning d).count → (P i → ⊥) → (meaning e).shown i ≡ (meaning d).shown i
    pub base : Alike (meaning d).count (grouped e).base (grouped d).base
    pub joins : (i : ℕ) → has i (meaning e).waits ≡ true → (has i (meaning d).waits ≡ true) ⊎ P i
    pub more : length (meaning e).waits ≤ length (meaning d).waits + k
    pub calls : GroupCalls meaning grouped false d e

  -- after calls of which the last was answered 11: the device is down, and nothing but the base may stand
  pub record Cut (d e : D) : Type 0 where
    pub below : agrees e
    pub group : SoundGroup (meaning e) (grouped e)
    pub left : Down (meaning d) (meaning e)
    pub ends : (f : ℕ → State) → (grouped e).ends f → Alike (meaning d).count f (grouped d).base
    pub calls : GroupCalls meaning grouped true d e

  -- a device that is ready to e, by calls answered r of which at most k are writes, all to pages of P; answered Ok, Q holds of the device then
  abbrev pub Moves : {T : Type 0} → ℕ → (ℕ → Type 0) → D → Result T DeviceFault → D → (T → Type 0) → Type 0
  Moves k P d r e Q = Ready agrees meaning grouped d → MatchResult r (λ x. Moved k P d e × Q x) (λ f. (number f ≡ 11) × Cut d e)

  -- the device e shows an empty store of at most so many buckets, which is its base, and no page waits
  pub record Made (kind limit : ℕ) (d e : D) : Type 0 where
    pub ready : Ready agrees meaning grouped e
    pub count : (meaning e).count ≡ (meaning d).count
    pub empty : Empty kind limit (meaning e).shown
    pub base : Alike (meaning d).count (grouped e).base (meaning e).shown
    pub waits : (meaning e).waits ≡ []
    pub calls : GroupCalls meaning grouped false d e

  -- a device that was down or ran, by calls of which the last was answered 11
  pub record Broken (d e : D) : Type 0 where
    pub below : agrees e
    pub left : Down (meaning d) (meaning e)
    pub calls : GroupCalls meaning grouped true d e
