-- Lists as sets.
use Rattle.std.specs.Prelude.{◌≡◌, ◌⊎◌, List, [], ◌∷◌}

-- x stands in the list
abbrev pub In : {X : Type 0} → X → List X → Type 0
In x [] = ⊥
In x (y ∷ ys) = (y ≡ x) ⊎ In x ys

-- nothing stands in it twice
abbrev pub Once : {X : Type 0} → List X → Type 0
Once [] = Unit {0}
Once (x ∷ xs) = (In x xs → ⊥) × Once xs

-- two lists are the same set: what stands in one stands in the other
abbrev pub Same : {X : Type 0} → List X → List X → Type 0
Same {X} xs ys = (x : X) → (In x xs → In x ys) × (In x ys → In x xs)
