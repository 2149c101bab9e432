-- Records and maps. A map is a set of records, no two keys the same: a list that is told by what stands in it (`Same`) and never by its order.
use Rattle.std.specs.Prelude.{◌≡◌, ℕ, ◌+◌, true, false, not, List, [], ◌∷◌, length, sum_by, filter}
use Rattle.std.specs.List.{AllByRecursion}
use Rattle.keys.specs.Rule.{Rule}

pub record Rec : Type 0 where
  -- the number of its class
  pub class : ℕ
  -- the last day to which it is kept
  pub last : ℕ
  pub key : List ℕ
  pub value : List ℕ

-- its whole length: eight bytes before the key and the value
abbrev pub size : Rec → ℕ
size r = 8 + length r.key + length r.value

-- each key is valid
abbrev pub Valid : Rule → List Rec → Type 0
Valid R m = AllByRecursion (λ r. R.valid r.key ≡ true) m

-- no two keys are the same
abbrev pub Apart : Rule → List Rec → Type 0
Apart R [] = Unit {0}
Apart R (r ∷ m) = AllByRecursion (λ s. R.same r.key s.key ≡ false) m × Apart R m

-- m is a map under the rule R
pub record Sound (R : Rule) (m : List Rec) : Type 0 where
  pub valid : Valid R m
  pub apart : Apart R m

-- m with the key k removed
abbrev pub without : Rule → List ℕ → List Rec → List Rec
without R k m = filter (λ r. not (R.same k r.key)) m

-- m with the record r, in the place of the one with the same key: the newest spelling of a key is kept
abbrev pub put : Rule → Rec → List Rec → List Rec
put R r m = r ∷ without R r.key m

-- the bytes of the record of m whose key is the same as k, or 0
abbrev pub held : Rule → List ℕ → List Rec → ℕ
held R k m = sum_by size (filter (λ r. R.same k r.key) m)

-- one change of a map
pub data Change : Type 0 where
  Put : Rec → Change
  Delete : List ℕ → Change

-- the key that it is about
abbrev pub key_of : Change → List ℕ
key_of (Put r) = r.key
key_of (Delete k) = k

-- the bytes that it adds, in the place of those `held`
abbrev pub added : Change → ℕ
added (Put r) = size r
added (Delete k) = 0

-- the records that it brings
abbrev pub new_of : Change → List Rec
new_of (Put r) = r ∷ []
new_of (Delete k) = []

-- the map after it
abbrev pub made : Rule → Change → List Rec → List Rec
made R (Put r) m = put R r m
made R (Delete k) m = without R k m
