-- The entries of a directory: which page each names.
use Rattle.std.specs.Prelude.{◌≡◌, ℕ, ◌+◌, ◌-◌, ◌*◌, ◌^◌, ◌<◌, ◌≤◌, cond, ◌⊎◌, List, ◌==◌, ◌≢◌, slice_index}
use Rattle.tree.specs.Prefix.{pre}
use Rattle.tree.specs.Members.{In}

-- what an array has for entry i
abbrev pub at : List ℕ → ℕ → ℕ
at xs i = slice_index xs i

-- a directory of w bits, entry i of which names the page E i, of local depth d i: entries name one page exactly if they begin with that page's prefix
pub record Names (w : ℕ) (E d : ℕ → ℕ) : Type 0 where
  pub short : (i : ℕ) → i < 2 ^ w → d i ≤ w
  pub whole : (i j : ℕ) → i < 2 ^ w → j < 2 ^ w → pre w j (d i) ≡ pre w i (d i) → d j ≡ d i
  pub only : (i j : ℕ) → i < 2 ^ w → j < 2 ^ w → E j ≡ E i → pre w j (d i) ≡ pre w i (d i)
  pub every : (i j : ℕ) → i < 2 ^ w → j < 2 ^ w → pre w j (d i) ≡ pre w i (d i) → E j ≡ E i

-- used entries name pages from 5 to 4 + limit
abbrev pub InRange : ℕ → ℕ → (ℕ → ℕ) → Type 0
InRange w limit E = (i : ℕ) → i < 2 ^ w → (5 ≤ E i) × (E i ≤ 4 + limit)

-- unused entries are 0
abbrev pub Unused : ℕ → (ℕ → ℕ) → Type 0
Unused w E = (i : ℕ) → 2 ^ w ≤ i → i < 256 → E i ≡ 0

-- some page has all the bits of the directory, or it has no bits
abbrev pub DepthUsed : ℕ → (ℕ → ℕ) → Type 0
DepthUsed w d = (w ≡ 0) ⊎ ((i : ℕ) × (i < 2 ^ w) × (d i ≡ w))

-- some used entry names the page q
abbrev pub Named : ℕ → (ℕ → ℕ) → ℕ → Type 0
Named w E q = (i : ℕ) × (i < 2 ^ w) × (E i ≡ q)

-- no used entry names the page q
abbrev pub Free : ℕ → (ℕ → ℕ) → ℕ → Type 0
Free w E q = (i : ℕ) → i < 2 ^ w → E i ≢ q

-- the page q may be a bucket, is free, and is the lowest such
pub record FirstFree (w limit : ℕ) (E : ℕ → ℕ) (q : ℕ) : Type 0 where
  pub low : 5 ≤ q
  pub high : q ≤ 4 + limit
  pub free : Free w E q
  pub first : (p : ℕ) → 5 ≤ p → p < q → Named w E p

-- every page that may be a bucket is named
abbrev pub NoneFree : ℕ → ℕ → (ℕ → ℕ) → Type 0
NoneFree w limit E = (q : ℕ) → 5 ≤ q → q ≤ 4 + limit → Named w E q

-- the list has every page that a used entry names
abbrev pub AllIn : ℕ → (ℕ → ℕ) → List ℕ → Type 0
AllIn w E taken = (i : ℕ) → i < 2 ^ w → In (E i) taken

-- f, but x at each entry of w bits that begins with the n bits p
abbrev pub assigned : ℕ → ℕ → ℕ → ℕ → (ℕ → ℕ) → ℕ → ℕ
assigned w n p x f i = cond (pre w i n == p) x (f i)

-- f of the first w bits, for entries of v bits
abbrev pub widened : ℕ → ℕ → (ℕ → ℕ) → ℕ → ℕ
widened w v f i = f (pre v i w)

-- f of the first entry of v bits that begins with i, for an entry i of w bits
abbrev pub narrowed : ℕ → ℕ → (ℕ → ℕ) → ℕ → ℕ
narrowed v w f i = f (i * 2 ^ (v - w))

-- entries from 2 ^ w on are as they were
abbrev pub Beyond : ℕ → (ℕ → ℕ) → (ℕ → ℕ) → Type 0
Beyond w E E' = (i : ℕ) → 2 ^ w ≤ i → E' i ≡ E i

-- entries 2 i and 2 i + 1 name different pages
abbrev pub Differ : (ℕ → ℕ) → ℕ → Type 0
Differ E i = E (2 * i) ≡ E (2 * i + 1) → ⊥
