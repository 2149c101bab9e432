-- What a change does to the entries of a directory. The bucket of the hash h has l bits before a split and n after it; a merge leaves it n.
use Rattle.std.specs.Prelude.{◌≡◌, ℕ, suc, ◌+◌, ◌-◌, ◌*◌, ◌^◌, ◌<◌, ◌≤◌, max, ◌⊎◌, List, length, ◌≢◌}
use Rattle.tree.specs.Prefix.{pre}
use Rattle.directory.specs.Names.{Names, InRange, Unused, DepthUsed, Free, AllIn, Differ, assigned, widened, narrowed}

-- ---- splits

-- the numbers of a split in a directory of w bits are in range
abbrev pub SplitFits : ℕ → ℕ → ℕ → ℕ → Type 0
SplitFits w limit l n = (w ≤ 8) × (limit ≤ 256) × (l ≤ w) × (l ≤ n) × (n ≤ 8)

-- the page that h leads to has l bits, and can be split down to n bits
pub record Splitting (w limit h l n : ℕ) (E d : ℕ → ℕ) : Type 0 where
  pub fits : SplitFits w limit l n
  pub names : Names w E d
  pub range : InRange w limit E
  pub unused : Unused w E
  pub used : DepthUsed w d
  pub own : (i : ℕ) → i < 2 ^ w → pre w i l ≡ pre 32 h l → d i ≡ l

-- entry i of v bits after that, from E and d of w bits to E' and d': it does not begin with h's l bits and is as it was; or it leaves h's path behind j bits, and names a page that was free;
-- or it begins with h's n bits, and names the old page
abbrev pub SplitEntry : ℕ → ℕ → ℕ → ℕ → ℕ → (ℕ → ℕ) → (ℕ → ℕ) → (ℕ → ℕ) → (ℕ → ℕ) → ℕ → Type 0
SplitEntry w v h l n E d E' d' i =
    ((pre v i l ≢ pre 32 h l) × (d (pre v i w) ≡ d' i) × (E (pre v i w) ≡ E' i))
    ⊎ ((j : ℕ) × (l ≤ j) × (j < n) × (pre v i j ≡ pre 32 h j) × (pre v i (suc j) ≢ pre 32 h (suc j)) × (suc j ≡ d' i) × Free w E (E' i))
    ⊎ ((pre v i n ≡ pre 32 h n) × (n ≡ d' i) × (E' i ≡ E (pre v i w)))

-- the directory of v bits after that, of local depths d'
pub record SplitTo (w v limit h l n : ℕ) (E d E' d' : ℕ → ℕ) : Type 0 where
  pub names : Names v E' d'
  pub range : InRange v limit E'
  pub unused : Unused v E'
  pub entries : (i : ℕ) → i < 2 ^ v → SplitEntry w v h l n E d E' d' i

-- the same: v is the greater of w and n, and all these bits are used
pub record Split (w v limit h l n : ℕ) (E d E' : ℕ → ℕ) : Type 0 where
  pub wide : v ≡ max w n
  pub depths : ℕ → ℕ
  pub split : SplitTo w v limit h l n E d E' depths
  pub used : DepthUsed v depths

-- the pages that are named, and one more for each bit further, are more than there may be
abbrev pub TooFew : ℕ → ℕ → ℕ → ℕ → (ℕ → ℕ) → Type 0
TooFew w limit l n E = (taken : List ℕ) → AllIn w E taken → limit < length taken + (n - l)

-- F has the entries of E, widened from w to v bits
pub record WidenedTo (w v : ℕ) (E F : ℕ → ℕ) : Type 0 where
  pub wider : w ≤ v
  pub used : (i : ℕ) → i < 2 ^ v → F i ≡ widened w v E i
  pub unused : Unused v F

-- ---- merges

-- the numbers of a merge in a directory of w bits are in range
abbrev pub MergeFits : ℕ → ℕ → Type 0
MergeFits w n = (w ≤ 8) × (n ≤ w)

-- all pages below the first n bits of h can be merged into one of them
pub record Merging (w h n page : ℕ) (E d : ℕ → ℕ) : Type 0 where
  pub fits : MergeFits w n
  pub names : Names w E d
  pub below : (i : ℕ) → i < 2 ^ w → pre w i n ≡ pre 32 h n → n ≤ d i
  pub one : (j : ℕ) × (j < 2 ^ w) × (pre w j n ≡ pre 32 h n) × (page ≡ E j)

-- from E of w bits to E' of u bits an entry in each 2 ^ (w - u) is left, and the others name the same pages
pub record NarrowedTo (w u : ℕ) (E E' : ℕ → ℕ) : Type 0 where
  pub narrower : u ≤ w
  pub left : (i : ℕ) → i < 2 ^ u → E' i ≡ narrowed w u E i
  pub others : (i : ℕ) → i < 2 ^ w → E i ≡ narrowed w u E (pre w i u)

-- no bit less does
abbrev pub Narrowest : ℕ → (ℕ → ℕ) → Type 0
Narrowest u E = (u ≡ 0) ⊎ ((i : ℕ) × (2 * i + 1 < 2 ^ u) × Differ E i)

-- the directory of u bits after that merge: the entries that begin with the n bits name the one page, of n bits, and it is as narrow as its pages allow
pub record Merged (w u h n page : ℕ) (E d E' : ℕ → ℕ) : Type 0 where
  pub narrower : u ≤ w
  pub short : (i : ℕ) → i < 2 ^ w → assigned w n (pre 32 h n) n d i ≤ u
  pub entries : (i : ℕ) → i < 2 ^ u → E' i ≡ narrowed w u (assigned w n (pre 32 h n) page E) i
  pub names : Names u E' (narrowed w u (assigned w n (pre 32 h n) n d))
  pub range : (limit : ℕ) → InRange w limit E → InRange u limit E'
  pub unused : Unused u E'
  pub used : DepthUsed u (narrowed w u (assigned w n (pre 32 h n) n d))
