-- How a disk is armed to lose power: after how many counted calls, by which letters, and after how many bytes a torn page tears.
use Rattle.std.specs.Prelude.{◌≡◌, ℕ, ◌-◌, ◌%◌, Bool, true, false, ◌&&◌, ◌||◌, List, [], ◌∷◌, map, length, Result, MatchResult, ◌==◌, nat_le, slice_index}
use Rattle.disk.specs.declared.arming.ArmFault.{ArmFault}
use Rattle.disk.specs.declared.arming.ArmFault.TheVariants.{NotAsStated}
use Rattle.disk.specs.declared.arming.Letter.{Letter}
use Rattle.disk.specs.declared.arming.Letter.TheVariants.{Old, New, Torn}
use Rattle.disk.specs.declared.arming.Arming.{Arming}

-- the number that stands for the refusal of an arming
abbrev pub arm_number : ArmFault → ℕ
arm_number NotAsStated = 8

-- a letter is o (111), n (110) or t (116)
abbrev pub is_letter : ℕ → Bool
is_letter x = x == 111 || (x == 110 || x == 116)

-- the byte of a letter
abbrev pub byte_of : Letter → ℕ
byte_of Old = 111
byte_of New = 110
byte_of Torn = 116

-- a byte is read as the letter whose byte it is, or is no letter
abbrev pub ReadsLetter : ℕ → Result Letter ArmFault → Type 0
ReadsLetter x r = MatchResult r (λ l. byte_of l ≡ x) (λ e. is_letter x ≡ false)

abbrev pub all_letters : List ℕ → Bool
all_letters [] = true
all_letters (x ∷ xs) = is_letter x && all_letters xs

-- an arming is as stated: one to eight letters, and a length from 1 to 255
unfoldable pub stated : List ℕ → ℕ → Bool
stated ls t = (nat_le 1 (length ls) && nat_le (length ls) 8) && (all_letters ls && (nat_le 1 t && nat_le t 255))

-- the bytes that stand for letters
abbrev pub bytes_of : List Letter → List ℕ
bytes_of = map byte_of

-- the letter of the unsettled page that comes after n others: the letters are repeated
unfoldable pub letter_of : List ℕ → ℕ → ℕ
letter_of ls n = slice_index ls (n % length ls)

-- a call is counted: one fewer is left, and power is lost in it exactly if it was the last
pub record Ticked (a : Arming) (lost : Bool) (b : Arming) : Type 0 where
  pub last : lost ≡ (a.left == 1)
  pub left : b.left ≡ a.left - 1
  pub letters : b.letters ≡ a.letters
  pub kept : b.kept ≡ a.kept
