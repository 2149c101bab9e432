-- The images of a disk, settled (s) and written (w), with a mark byte for each page (k): what each page shows, what a loss of power may leave
-- there, and what a sync and a cut make of them all.
use Rattle.std.specs.Prelude.{◌≡◌, ℕ, zero, suc, ◌+◌, ◌*◌, ◌/◌, ◌<◌, ◌≤◌, min, Bool, true, cond, not, ◌⊎◌, List, ◌++◌, length, drop, replicate, ◌==◌, slice_index}
use Rattle.device.specs.Meaning.{State, spoiled}
use Rattle.disk.specs.Arm.{letter_of}
use Rattle.disk.specs.declared.images.Images.{Images}
use Rattle.disk.specs.Raw.{raw, decode, chosen}

-- whole pages in all three, at most 131072
unfoldable pub count_of : List ℕ → List ℕ → List ℕ → ℕ
count_of s w k = min (min (length s / 256) (length w / 256)) (min (length k) 131072)

-- how many pages the images of a disk have
abbrev pub pages : Images → ℕ
pages m = count_of m.settled.now m.written.now m.marks.now

-- page i was written and is not settled
unfoldable pub marked : List ℕ → ℕ → Bool
marked k i = not (slice_index k i == 0)

-- the raw page that page i shows
unfoldable pub current : List ℕ → List ℕ → List ℕ → ℕ → List ℕ
current s w k i = cond (marked k i) (raw w i) (raw s i)

-- what a loss of power may leave at page i: the settled page, and of an unsettled one also the written page, or a spoiled one
abbrev pub Fate : List ℕ → List ℕ → List ℕ → ℕ → State → Type 0
Fate s w k i t = (t ≡ decode (raw s i)) ⊎ ((marked k i ≡ true) × ((t ≡ decode (raw w i)) ⊎ (t ≡ spoiled)))

-- the marks with the first n of them cleared
unfoldable pub cleared : ℕ → List ℕ → List ℕ
cleared n k = replicate n 0 ++ drop n k

-- s' and k' are the settled image s and the marks k after a walk over the first i of n pages, which leaves f j at page j and clears its mark;
-- the other pages, what lies behind them and the other marks are as they were
pub record Swept (f : ℕ → List ℕ) (s k : List ℕ) (n i : ℕ) (s' k' : List ℕ) : Type 0 where
  pub length_s : length s' ≡ length s
  pub done : (j : ℕ) → j < i → raw s' j ≡ f j
  pub todo : (j : ℕ) → i ≤ j → j < n → raw s' j ≡ raw s j
  pub rest : drop (n * 256) s' ≡ drop (n * 256) s
  pub marks : k' ≡ cleared i k

-- all that was written is settled: each page is as it was shown
abbrev pub Settled : List ℕ → List ℕ → List ℕ → List ℕ → List ℕ → Type 0
Settled s w k s' k' = Swept (current s w k) s k (count_of s w k) (count_of s w k) s' k'

-- how many of the first i pages are unsettled
unfoldable pub rank : List ℕ → ℕ → ℕ
rank k zero = 0
rank k (suc i) = rank k i + cond (marked k i) 1 0

-- what a cut leaves at page i: the unsettled pages take the letters in ascending page order
unfoldable pub cut_page : List ℕ → List ℕ → List ℕ → List ℕ → ℕ → ℕ → List ℕ
cut_page s w k ls T i = cond (marked k i) (chosen (letter_of ls (rank k i)) T (raw s i) (raw w i)) (raw s i)

-- a cut: each unsettled page is left by its letter, and is settled
abbrev pub CutTo : List ℕ → List ℕ → List ℕ → List ℕ → ℕ → List ℕ → List ℕ → Type 0
CutTo s w k ls T s' k' = Swept (cut_page s w k ls T) s k (count_of s w k) (count_of s w k) s' k'
