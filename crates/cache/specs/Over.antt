-- A cache by the ghost members of the device below it, for any such device: from the cache c to the cache c', by a call k answered r.
use Rattle.std.specs.Prelude.{◌≡◌, ℕ, true, List}
use Rattle.device.specs.Meaning.{Meaning, Grouped, has}
use Rattle.device.specs.Calls.{Answer, Call, DeviceCalls, GroupCalls, Over}
use Rattle.device.specs.Clauses.{Does, GroupDoes}
use Rattle.cache.specs.declared.cache.Cache.{Cache}
use Rattle.cache.specs.Order.{kept, keeps}
use Rattle.cache.specs.Keeping.{up, table_of, under, Agrees}

-- what it means
abbrev pub cached : {X : Type 0} → (X → Meaning) → Cache X → Meaning
cached meaning c = under (up c.memory) (meaning c.below)

-- the device below agrees with whatever stands below it, and the cache with that device
abbrev pub Agreeing : {X : Type 0} → (X → Type 0) → (X → Meaning) → Cache X → Type 0
Agreeing agrees meaning c = agrees c.below × Agrees c.memory (meaning c.below)

-- the pages that it keeps, oldest first
abbrev pub kept_by : {X : Type 0} → Cache X → List ℕ
kept_by c = kept (table_of c.memory)

-- what the call does
abbrev pub Doing : {X : Type 0} → (X → Type 0) → (X → Meaning) → Call → Cache X → Answer → Cache X → Type 0
Doing agrees meaning = Does (Agreeing agrees meaning) (cached meaning)

-- the same over a group device, whose base and ends are the cache's own
abbrev pub GroupDoing : {X : Type 0} → (X → Type 0) → (X → Meaning) → (X → Grouped) → Call → Cache X → Answer → Cache X → Type 0
GroupDoing agrees meaning grouped = GroupDoes (Agreeing agrees meaning) (cached meaning) (λ c. grouped c.below)

-- which calls it makes below, and that it answers 11 exactly if one of them was answered so, or while it is down
abbrev pub Calling : {X : Type 0} → (X → Type 0) → (X → Meaning) → Call → Cache X → Answer → Cache X → Type 0
Calling agrees meaning k c r c' = Agreeing agrees meaning c → Over (DeviceCalls meaning) k (up c.memory) c.below r c'.below

abbrev pub GroupCalling : {X : Type 0} → (X → Type 0) → (X → Meaning) → (X → Grouped) → Call → Cache X → Answer → Cache X → Type 0
GroupCalling agrees meaning grouped k c r c' = Agreeing agrees meaning c → Over (GroupCalls meaning grouped) k (up c.memory) c.below r c'.below

-- which pages it then keeps
abbrev pub Keeping : {X : Type 0} → (X → Type 0) → (X → Meaning) → Call → Cache X → Answer → Cache X → Type 0
Keeping agrees meaning k c r c' = Agreeing agrees meaning c → kept_by c' ≡ keeps k r (kept_by c)

-- a read of a page that it keeps leaves the cache, and all below it, as it was
abbrev pub Resting : {X : Type 0} → (X → Type 0) → (X → Meaning) → ℕ → Cache X → Cache X → Type 0
Resting agrees meaning p c c' = Agreeing agrees meaning c → has p (kept_by c) ≡ true → c' ≡ c
