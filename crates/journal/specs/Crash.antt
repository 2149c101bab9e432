-- What each page below may hold at each point of a sync. Which images may then stand is proved of these four alone.
use Rattle.std.specs.Prelude.{◌≡◌, ℕ, ◌+◌, ◌<◌, true, ◌⊎◌, List, [], length}
use Rattle.device.specs.Meaning.{State, Meaning, has}
use Rattle.journal.specs.Standing.{over}

-- what a page below may hold, by its place: header, body j, home page i
pub record Phase (H : State → Type 0) (B : ℕ → State → Type 0) (O : ℕ → State → Type 0) (p : ℕ) (s : State) : Type 0 where
  pub head : p ≡ 0 → H s
  pub body : (j : ℕ) → p ≡ 1 + j → j < 64 → B j s
  pub home : (i : ℕ) → p ≡ 65 + i → O i s

-- each fate of each page is one that F allows
abbrev pub Within : Meaning → (ℕ → State → Type 0) → Type 0
Within m F = (p : ℕ) (s : State) → p < m.count → m.fates p s → F p s

-- the image with the bodies b laid over the base
abbrev pub fresh : List ℕ → (ℕ → State) → (ℕ → State) → ℕ → State
fresh ts b base i = over ts 1 b i (base i)

-- T reads the targets of a header; ts are the targets of this sync, b its bodies, and base the image before it
module _ (T : State → List ℕ) (ts : List ℕ) (b base : ℕ → State) where
  -- 1: bodies are written; no header names a group
  abbrev pub Bodies : ℕ → State → Type 0
  Bodies = Phase (λ s. T s ≡ []) (λ j s. Unit {0}) (λ i s. s ≡ base i)

  -- 2: the header is written; the bodies stand
  abbrev pub Naming : ℕ → State → Type 0
  Naming = Phase (λ s. (T s ≡ []) ⊎ (T s ≡ ts)) (λ j s. j < length ts → s ≡ b (1 + j)) (λ i s. s ≡ base i)

  -- 3: the home pages are written under a header that stands
  abbrev pub Laying : ℕ → State → Type 0
  Laying = Phase (λ s. T s ≡ ts) (λ j s. j < length ts → s ≡ b (1 + j)) (λ i s. (has i ts ≡ true) ⊎ (s ≡ base i))

  -- 4: the header is cleared over home pages that stand
  abbrev pub Clearing : ℕ → State → Type 0
  Clearing = Phase (λ s. (T s ≡ []) ⊎ (T s ≡ ts)) (λ j s. j < length ts → s ≡ b (1 + j)) (λ i s. s ≡ fresh ts b base i)
