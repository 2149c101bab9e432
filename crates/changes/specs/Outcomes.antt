-- One change of the map that a device shows: when it is made, and when not.
use Rattle.std.specs.Prelude.{◌≡◌, ℕ, ◌<◌, ◌≤◌, true, ◌⊎◌, List, length, Some, None, Option, Result, MatchResult}
use Rattle.device.specs.declared.DeviceFault.{DeviceFault}
use Rattle.device.specs.Meaning.{Meaning, Grouped}
use Rattle.device.specs.Numbers.{number as fault_number}
use Rattle.keys.specs.Rule.{Rule}
use Rattle.tree.specs.Prefix.{pre}
use Rattle.tree.specs.Maps.{Rec, Change, Put, Delete, key_of, made}
use Rattle.tree.specs.Loads.{loads}
use Rattle.tree.specs.Trees.{room, deepest, number}
use Rattle.pages.specs.declared.records.Record.{Record}
use Rattle.pages.specs.Images.{root, WellFormed}
use Rattle.pages.specs.Records.{viewed, Fine}
use Rattle.access.specs.Moves.{Moved, Cut}
use Rattle.bucket.specs.Sifts.{LacksKey, HasKey}
use Rattle.bucket.specs.Laws.{hash_of}
use Rattle.writing.specs.Plans.{Among}
use Rattle.changes.specs.declared.denial.Denial.{Denial}
use Rattle.changes.specs.declared.denial.Denial.TheVariants.{KeyAbsent, BucketFull, StoreFull, NotWellFormed}

-- the change that is asked for: a put of the record, or a delete of the key
abbrev pub asked : List ℕ → Option Record → Change
asked k None = Delete k
asked k (Some r) = Put (viewed r)

-- the key is valid, and the record, if there is one, has this key and may stand in a page
abbrev pub Proper : Rule → List ℕ → Option Record → Type 0
Proper R k None = R.valid k ≡ true
Proper R k (Some r) = (R.valid k ≡ true) × ((viewed r).key ≡ k) × Fine R.valid (viewed r)

-- the bytes that the changed map has under the first eight bits of the key's hash
abbrev pub crowd : Rule → Change → List Rec → ℕ
crowd R c m = loads R (made R c m) deepest (pre 32 (hash_of R c) deepest)

-- the change of the map m is a delete of an absent key; or a put after which eight bits have no room; or one after which they have, but there are more buckets than the limit
abbrev pub Denied : Rule → Change → List Rec → ℕ → Denial → Type 0
Denied R c m limit KeyAbsent = (k : List ℕ) × (c ≡ Delete k) × LacksKey R k m
Denied R c m limit BucketFull = (r : Rec) × (c ≡ Put r) × (room < crowd R c m)
Denied R c m limit StoreFull = (r : Rec) × (c ≡ Put r) × (crowd R c m ≤ room) × (limit < number (loads R (made R c m)))
Denied R c m limit (NotWellFormed w) = ⊥

-- none of these
pub record Allowed (R : Rule) (c : Change) (m : List Rec) (limit : ℕ) : Type 0 where
  pub there : ((r : Rec) × (c ≡ Put r)) ⊎ HasKey R (key_of c) m
  pub crowded : crowd R c m ≤ room
  pub buckets : number (loads R (made R c m)) ≤ limit

module _ {D : Type 0} (R : Rule) (agrees : D → Type 0) (meaning : D → Meaning) (grouped : D → Grouped) where
  -- the change was made, from the device d to e
  pub record Changed (c : Change) (m : List Rec) (d e : D) : Type 0 where
    pub allowed : Allowed R c m (root (meaning d).shown).limit
    pub buckets : List ℕ
    pub few : length buckets ≤ 9
    pub moved : Moved agrees meaning grouped 14 (Among buckets) d e
    pub formed : WellFormed R (meaning d).count (meaning e).shown (made R c m)
    pub limits : (root (meaning e).shown).limit ≡ (root (meaning d).shown).limit

  -- it was denied, and nothing was written
  pub record NotChanged (c : Change) (m : List Rec) (w : Denial) (d e : D) : Type 0 where
    pub denied : Denied R c m (root (meaning d).shown).limit w
    pub moved : Moved agrees meaning grouped 0 (λ _. ⊥) d e

  -- the answer r to a change c of the map m: made, denied, or 11
  abbrev pub Outcome : Change → List Rec → D → Result (Result (Unit {0}) Denial) DeviceFault → D → Type 0
  Outcome c m d r e = MatchResult r (λ x. MatchResult x (λ _. Changed c m d e) (λ w. NotChanged c m w d e)) (λ f. (fault_number f ≡ 11) × Cut agrees meaning grouped d e)
