-- Loads of prefixes.
use Rattle.std.specs.Prelude.{◌≡◌, ℕ, suc, ◌+◌, ◌*◌, ◌<◌, cond, List, sum_by, ◌==◌}
use Rattle.keys.specs.Rule.{Rule}
use Rattle.tree.specs.Prefix.{pre}
use Rattle.tree.specs.Maps.{Rec, size}

-- a load for each prefix, by its length and its bits
abbrev pub Loads : Type 0
Loads = ℕ → ℕ → ℕ

-- the summed weight of those of xs whose hash begins with the n bits p
unfoldable pub load : {X : Type 0} → (X → ℕ) → (X → ℕ) → List X → ℕ → ℕ → ℕ
load hash weight xs n p = sum_by (λ x. cond (pre 32 (hash x) n == p) (weight x) 0) xs

-- a record's hash is that of its key
abbrev pub hashed : Rule → Rec → ℕ
hashed R = λ r. R.hash r.key

-- the loads of a map: records by their whole length
abbrev pub loads : Rule → List Rec → Loads
loads R m = load (hashed R) size m

-- a prefix's load is that of its two halves, which are one bit longer
abbrev pub Splits : Loads → Type 0
Splits L = (n p : ℕ) → n < 32 → L n p ≡ L (suc n) (2 * p) + L (suc n) (2 * p + 1)
