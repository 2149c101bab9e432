-- Raw pages of 256 bytes: the page of 252 bytes, then its check, the highest byte first.
use Rattle.std.specs.Prelude.{ℕ, ◌+◌, ◌*◌, ◌/◌, ◌%◌, Bool, cond, not, ◌&&◌, List, [], ◌∷◌, ◌++◌, take, drop, ◌==◌, slice_index}
use Rattle.std.specs.Str.{bytes_eq}
use Rattle.device.specs.Meaning.{State, bytes, spoiled}
use Rattle.crc.specs.Crc32.{crc_of}

-- the check of a page is its CRC-32
unfoldable pub check_of : List ℕ → ℕ
check_of page = crc_of page

-- raw page i of an image
unfoldable pub raw : List ℕ → ℕ → List ℕ
raw img i = take 256 (drop (i * 256) img)

-- the image with x as its raw page i
unfoldable pub put_raw : List ℕ → ℕ → List ℕ → List ℕ
put_raw img i x = take (i * 256) img ++ (x ++ drop (i * 256 + 256) img)

-- the check that a raw page carries
abbrev pub stored : List ℕ → ℕ
stored r = slice_index r 252 * 16777216 + slice_index r 253 * 65536 + slice_index r 254 * 256 + slice_index r 255

-- a raw page carries the right check
unfoldable pub holds : List ℕ → Bool
holds r = stored r == check_of (take 252 r)

-- a raw page with a wrong check is spoiled
unfoldable pub decode : List ℕ → State
decode r = cond (holds r) (bytes (take 252 r)) spoiled

-- the raw page of a page
unfoldable pub sealed : List ℕ → List ℕ
sealed p = p ++ (check_of p / 16777216 % 256) ∷ (check_of p / 65536 % 256) ∷ (check_of p / 256 % 256) ∷ (check_of p % 256) ∷ []

-- the first T bytes of the new raw page, and the rest of the old
unfoldable pub mix : ℕ → List ℕ → List ℕ → List ℕ
mix T old new = take T new ++ drop T old

-- a mix whose check holds, yet equals neither, is replaced by the old
unfoldable pub torn : ℕ → List ℕ → List ℕ → List ℕ
torn T old new =
    cond (holds (mix T old new) && (not (bytes_eq (mix T old new) old) && not (bytes_eq (mix T old new) new))) old (mix T old new)

-- what a cut leaves of a page by its letter: o the old, n the new, t the torn mix
unfoldable pub chosen : ℕ → ℕ → List ℕ → List ℕ → List ℕ
chosen letter T old new = cond (letter == 111) old (cond (letter == 110) new (torn T old new))
