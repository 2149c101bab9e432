-- Reads of a group device: what they find, and that they leave the device as it was.
use Rattle.std.specs.Prelude.{◌≡◌, ℕ, suc, ◌≤◌, Bool, true, false, List, Option, MatchOption, Result, MatchResult}
use Rattle.device.specs.declared.DeviceFault.{DeviceFault}
use Rattle.device.specs.Meaning.{State, bytes, spoiled, Meaning, Grouped, SoundGroup, Alike}
use Rattle.device.specs.Numbers.{number}
use Rattle.device.specs.Promises.{Same, Lost}
use Rattle.device.specs.GroupPromises.{NoEnd, SameGroup}
use Rattle.device.specs.Calls.{Answer, Call, Calls, none, more, GroupCalls}

-- how many calls a chain of calls has
unfoldable pub made : {D : Type 0} {runs : D → Bool} {step : Call → D → Answer → D → Type 0} {heard : Bool} {a e : D} → Calls runs step heard a e → ℕ
made none = 0
made (more k r e q al s) = suc (made q)

-- a group device, by its ghost members
module _ {D : Type 0} (agrees : D → Type 0) (meaning : D → Meaning) (grouped : D → Grouped) where
  -- it agrees with what stands below it, its group is sound, and it runs
  pub record Ready (d : D) : Type 0 where
    pub below : agrees d
    pub group : SoundGroup (meaning d) (grouped d)
    pub runs : (meaning d).runs ≡ true

  -- after at most k calls, none answered 11: it means what it did
  pub record Kept (k : ℕ) (d e : D) : Type 0 where
    pub ready : Ready e
    pub same : Same (meaning d) (meaning e)
    pub group : SameGroup (meaning d).count (grouped d) (grouped e)
    pub calls : GroupCalls meaning grouped false d e
    pub few : made calls ≤ k

  -- after at most k calls, the last answered 11: it is down, and neither a fate nor an end was added
  pub record Failed (k : ℕ) (d e : D) : Type 0 where
    pub below : agrees e
    pub group : SoundGroup (meaning e) (grouped e)
    pub lost : Lost (meaning d) (meaning e)
    pub ends : NoEnd (meaning d).count (grouped d) (grouped e)
    pub calls : GroupCalls meaning grouped true d e
    pub few : made calls ≤ k

-- the device shows the image f of n pages
pub record Shows (m : Meaning) (n : ℕ) (f : ℕ → State) : Type 0 where
  pub count : m.count ≡ n
  pub pages : Alike n m.shown f

-- P holds of the image that the device shows
abbrev pub Seen : Meaning → (ℕ → (ℕ → State) → Type 0) → Type 0
Seen m P = (n : ℕ) (f : ℕ → State) → Shows m n f → P n f

-- Looks agrees meaning grouped k d r e P: a function that only reads, answered r, leads from a device d that is ready to e by at most k calls. Answered Ok x, nothing has changed, and P holds
-- of the image shown and of x; the only refusal is 11.
abbrev pub Looks : {D T : Type 0} → (D → Type 0) → (D → Meaning) → (D → Grouped) → ℕ → D → Result T DeviceFault → D → (ℕ → (ℕ → State) → T → Type 0) → Type 0
Looks agrees meaning grouped k d r e P =
    Ready agrees meaning grouped d
    → MatchResult r (λ x. Kept agrees meaning grouped k d e × Seen (meaning d) (λ n f. P n f x)) (λ f. (number f ≡ 11) × Failed agrees meaning grouped k d e)

-- a read of page p of the image f: the page's bytes; none where it is spoiled
abbrev pub PageRead : ℕ → (ℕ → State) → Option (List ℕ) → Type 0
PageRead p f o = MatchOption o (f p ≡ spoiled) (λ page. f p ≡ bytes page)
