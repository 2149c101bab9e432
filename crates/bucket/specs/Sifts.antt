-- What a change of a key leaves in the buckets of its hash.
use Rattle.std.specs.Prelude.{◌≡◌, ℕ, ◌+◌, ◌<◌, ◌≤◌, Bool, true, false, not, ◌&&◌, List, [], ◌∷◌, Some, None, sum_by, filter, Option, MatchOption, ◌==◌}
use Rattle.std.specs.List.{AllByRecursion}
use Rattle.keys.specs.Rule.{Rule}
use Rattle.tree.specs.Prefix.{pre}
use Rattle.tree.specs.Members.{In}
use Rattle.tree.specs.Maps.{Rec, size}
use Rattle.tree.specs.Loads.{hashed}
use Rattle.tree.specs.Trees.{room, deepest}
use Rattle.pages.specs.declared.records.Record.{Record}
use Rattle.pages.specs.Records.{viewed}

-- no record has a key that is the same as k
abbrev pub LacksKey : Rule → List ℕ → List Rec → Type 0
LacksKey R k rs = AllByRecursion (λ x. R.same k x.key ≡ false) rs

-- some record has a key that is the same as k
abbrev pub HasKey : Rule → List ℕ → List Rec → Type 0
HasKey R k rs = (x : Rec) × In x rs × (R.same k x.key ≡ true)

-- a change of the key k leaves the record x in the bucket of the n bits p: its hash begins with them, and its key is not the same as k
abbrev pub stays : Rule → List ℕ → ℕ → ℕ → Rec → Bool
stays R k n p x = pre 32 (hashed R x) n == p && not (R.same k x.key)

-- of the records rs, those that it leaves there
abbrev pub sift : Rule → List ℕ → ℕ → ℕ → List Rec → List Rec
sift R k n p rs = filter (stays R k n p) rs

-- the bytes of these
abbrev pub sifted : Rule → List ℕ → ℕ → ℕ → List Rec → ℕ
sifted R k n p rs = sum_by size (sift R k n p rs)

-- the record that a change brings, if any
abbrev pub new_in : Option Record → List Rec
new_in None = []
new_in (Some r) = viewed r ∷ []

-- the load of the first n bits of the key's hash h, where the change brings so many bytes
abbrev pub own_load : Rule → List ℕ → ℕ → ℕ → List Rec → ℕ → ℕ
own_load R k h more rs n = sifted R k n (pre 32 h n) rs + more

-- of the numbers from low to 8 the first under which a load has room; none where there is no such number
abbrev pub FirstRoom : (ℕ → ℕ) → ℕ → Option ℕ → Type 0
FirstRoom load low answer =
    MatchOption answer ((k : ℕ) → low ≤ k → k ≤ deepest → room < load k) (λ n. (low ≤ n) × (n ≤ deepest) × (load n ≤ room) × ((k : ℕ) → low ≤ k → k < n → room < load k))
