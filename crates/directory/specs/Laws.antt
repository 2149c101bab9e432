-- The laws of directories, as contracts cite them.
use Rattle.std.specs.Prelude.{◌≡◌, ℕ, ◌^◌, ◌<◌, ◌≤◌, List, length}
use Rattle.tree.specs.Loads.{Loads}
use Rattle.tree.specs.Trees.{deepest, Falls, number}
use Rattle.directory.specs.Names.{Names, AllIn}

-- the pages that a directory of a tree's buckets names stand in a list that is as long as there are buckets
abbrev pub PagesTaken : Type 0
PagesTaken = (L : Loads) (w : ℕ) (E d : ℕ → ℕ) → w ≤ deepest → Names w E d → ((i : ℕ) → i < 2 ^ w → Falls L w i (d i)) → (taken : List ℕ) × (length taken ≡ number L) × AllIn w E taken
