-- What a disk holds, what it means by that, and what its work makes of it.
use Rattle.std.specs.Prelude.{◌≡◌, ℕ, ◌-◌, Bool, true, false, List, [], Option, Some, None, Result, MatchResult, ◌==◌, slice_set}
use Rattle.device.specs.Meaning.{Meaning}
use Rattle.device.specs.Numbers.{number}
use Rattle.device.specs.Calls.{Answer}
use Rattle.disk.specs.Arm.{arm_number, bytes_of, stated}
use Rattle.disk.specs.Raw.{decode, put_raw, sealed}
use Rattle.disk.specs.Image.{count_of, current, Fate, cleared, Settled, CutTo}
use Rattle.disk.specs.declared.arming.ArmFault.{ArmFault}
use Rattle.disk.specs.declared.arming.Arming.{Arming}
use Rattle.disk.specs.declared.disk.Disk.{Disk}

pub record Held : Type 0 where
  -- the image that a restart finds
  pub settled : List ℕ
  -- the image with what was written since
  pub written : List ℕ
  -- a byte for each page: not 0 where it was written and is not settled
  pub marks : List ℕ
  -- it runs, or is down
  pub running : Bool
  -- the counted calls until power is lost, that one included; 0 for never
  pub left : ℕ
  -- the letters by which pages are then left
  pub letters : List ℕ
  -- how many bytes of the new page a torn one begins with
  pub kept : ℕ

-- the calls, the letters and the length that a disk is armed with; one that is not armed has no letters
abbrev pub left_of : Option Arming → ℕ
left_of None = 0
left_of (Some a) = a.left

abbrev pub letters_of : Option Arming → List ℕ
letters_of None = []
letters_of (Some a) = bytes_of a.letters.items

abbrev pub kept_of : Option Arming → ℕ
kept_of None = 0
kept_of (Some a) = a.kept

abbrev pub held : Disk → Held
held d = record {
  settled = d.images.settled.now;
  written = d.images.written.now;
  marks = d.images.marks.now;
  running = d.running;
  left = left_of d.arming;
  letters = letters_of d.arming;
  kept = kept_of d.arming;
}

-- how many pages there are
abbrev pub count : Held → ℕ
count x = count_of x.settled x.written x.marks

-- what it means to hold x; on a disk no page waits
abbrev pub means : Held → Meaning
means x = record {
  count = count x;
  runs = x.running;
  shown = λ i. decode (current x.settled x.written x.marks i);
  fates = Fate x.settled x.written x.marks;
  waits = [];
}

-- the meaning of a disk, and that it agrees with what stands below it: nothing does
abbrev pub meant : Disk → Meaning
meant d = means (held d)

abbrev pub Agrees : Disk → Type 0
Agrees d = Unit {0}

-- a new disk over the images s and w and the marks k: it is down, not armed, and its marks are cleared
pub record Fresh (s w k : List ℕ) (x : Held) : Type 0 where
  pub settled : x.settled ≡ s
  pub written : x.written ≡ w
  pub marks : x.marks ≡ cleared (count_of s w k) k
  pub down : x.running ≡ false
  pub unarmed : x.left ≡ 0

-- the disk armed anew
abbrev pub armed : Held → ℕ → List ℕ → ℕ → Held
armed x n ls t = record { settled = x.settled; written = x.written; marks = x.marks; running = x.running; left = n; letters = ls; kept = t }

-- an arming that is as stated is accepted; any other is refused with 8, and nothing changes
abbrev pub Arms : ℕ → List ℕ → ℕ → Held → Result (Unit {0}) ArmFault → Held → Type 0
Arms n ls t x r y = MatchResult r (λ _. (stated ls t ≡ true) × (y ≡ armed x n ls t)) (λ e. (arm_number e ≡ 8) × (stated ls t ≡ false) × (y ≡ x))

-- a counted call that is not cut leaves one call fewer until the cut
abbrev pub counted : Held → Held
counted x = record { settled = x.settled; written = x.written; marks = x.marks; running = x.running; left = x.left - 1; letters = x.letters; kept = x.kept }

-- page p counts as written, and not settled
abbrev pub marking : Held → ℕ → Held
marking x p = record { settled = x.settled; written = x.written; marks = slice_set x.marks p 1; running = x.running; left = x.left; letters = x.letters; kept = x.kept }

-- page p is written with the bytes of buf, and not settled
abbrev pub stored : Held → ℕ → List ℕ → Held
stored x p buf = record { settled = x.settled; written = put_raw x.written p (sealed buf); marks = slice_set x.marks p 1; running = x.running; left = x.left; letters = x.letters; kept = x.kept }

-- the disk runs, and what was written and not settled is dropped
abbrev pub started : Held → Held
started x = record { settled = x.settled; written = x.written; marks = cleared (count x) x.marks; running = true; left = x.left; letters = x.letters; kept = x.kept }

-- all that was written is settled
pub record Synced (x y : Held) : Type 0 where
  pub pages : Settled x.settled x.written x.marks y.settled y.marks
  pub written : y.written ≡ x.written
  pub running : y.running ≡ x.running
  pub left : y.left ≡ x.left
  pub letters : y.letters ≡ x.letters
  pub kept : y.kept ≡ x.kept

-- power is lost: the unsettled pages of x are left by its letters, the disk is down, and the arming ends
pub record Cut (x y : Held) : Type 0 where
  pub pages : CutTo x.settled x.written x.marks x.letters x.kept y.settled y.marks
  pub written : y.written ≡ x.written
  pub down : y.running ≡ false
  pub ended : y.left ≡ 0

-- a call is counted, and answered 11 exactly if it is the last until the cut
abbrev pub Counts : Held → Answer → Held → Type 0
Counts x r y = MatchResult r (λ _. ((x.left == 1) ≡ false) × (y ≡ counted x)) (λ e. (number e ≡ 11) × ((x.left == 1) ≡ true) × Cut x y)
