-- What the parts of a check of an image answer.
use Rattle.std.specs.Prelude.{◌≡◌, ℕ, ◌+◌, ◌*◌, ◌^◌, ◌<◌, ◌≤◌, List, Ok, Err, Result, MatchResult}
use Rattle.device.specs.declared.DeviceFault.{DeviceFault}
use Rattle.device.specs.Meaning.{State}
use Rattle.keys.specs.Rule.{Rule}
use Rattle.pages.specs.declared.root.Root.{Root}
use Rattle.pages.specs.declared.root.Condition.{Condition}
use Rattle.pages.specs.declared.fault.CheckFault.{CheckFault}
use Rattle.pages.specs.declared.fault.CheckFault.TheVariants.{Broken, Device}
use Rattle.pages.specs.Bytes.{Directory}
use Rattle.pages.specs.Images.{shows, root, entry, W1, W2, W3, AllMet, Lowest}
use Rattle.pages.specs.Surveys.{at}

-- the numbers of a page 0 fit a kind of keys and a count of pages
abbrev pub RootFits : Root → ℕ → ℕ → Type 0
RootFits x kind count = (x.kind ≡ kind) × (x.depth ≤ 8) × (1 ≤ x.limit) × (x.limit ≤ 256) × (x.limit + 5 ≤ count)

-- unused entries are 0
abbrev pub Unused : (ℕ → ℕ) → ℕ → Type 0
Unused E w = (i : ℕ) → 2 ^ w ≤ i → i < 256 → E i ≡ 0

-- used entries name pages that may be buckets
abbrev pub InRange : (ℕ → ℕ) → ℕ → ℕ → Type 0
InRange E w limit = (i : ℕ) → i < 2 ^ w → (5 ≤ E i) × (E i ≤ 4 + limit)

-- the first three conditions hold, and this is what page 0 and the directory say
pub record LaidOut (R : Rule) (n : ℕ) (e : ℕ → State) (x : Root) (E : ℕ → ℕ) : Type 0 where
  pub first : W1 R n e
  pub second : W2 e
  pub third : W3 e
  pub rooted : root e ≡ x
  pub entries : (i : ℕ) → i < 64 * 4 → E i ≡ entry e i

-- the first j directory pages are by layout, and their entries were read
abbrev pub DirectoriesRead : (ℕ → State) → ℕ → List ℕ → Type 0
DirectoriesRead f j entries = ((m : ℕ) → m < j → Directory (shows (f (1 + m)))) × ((i : ℕ) → i < 64 * j → at entries i ≡ entry f i)

-- what a check decides, apart from the refusals of the device
abbrev pub decision : {T : Type 0} → Result T CheckFault → Result (Result T Condition) DeviceFault
decision (Ok x) = Ok (Ok x)
decision (Err (Broken c)) = Ok (Err c)
decision (Err (Device f)) = Err f

-- the decision on an image: all six conditions hold, and these are the numbers of page 0; or this is the lowest that is broken
abbrev pub Decided : Rule → ℕ → (ℕ → State) → Result Root Condition → Type 0
Decided R n f c = MatchResult c (λ x. AllMet R n f × (root f ≡ x)) (λ b. Lowest R n f b)
