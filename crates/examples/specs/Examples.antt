-- Worked examples: what the definitions give at some plain values, one list for all crates.
use Rattle.std.specs.Prelude.{◌≡◌, ℕ, true, false, List, [], ◌∷◌, replicate, Some, codes, nat_le}
use Rattle.crc.specs.Crc32.{crc_of}
use Rattle.keys.specs.Text.{texts}
use Rattle.tree.specs.Classes.{scan, mark, draft, row_of, last_day}
use Rattle.tree.specs.Maps.{Rec}
use Rattle.tree.specs.Loads.{loads}
use Rattle.tree.specs.Trees.{buckets, depth}

-- CRC-32 of short messages
abbrev pub Checks : Type 0
Checks =
    (crc_of (codes "123456789") ≡ 0xCBF4_3926)
    × (crc_of (codes "a") ≡ 0xE8B7_BE43)
    × (crc_of (codes "e") ≡ 0xEFDA_7A5A)

-- text keys: a letter's hash, capital or small, and how long a key may be
abbrev pub Keys : Type 0
Keys =
    (texts.hash (codes "A") ≡ 0xE8B7_BE43)
    × (texts.hash (codes "a") ≡ 0xE8B7_BE43)
    × (texts.hash (codes "e") ≡ 0xEFDA_7A5A)
    × (texts.valid (replicate 32 0x61) ≡ true)
    × (texts.valid (replicate 0 0x61) ≡ false)
    × (texts.valid (replicate 33 0x61) ≡ false)

-- a scan entry, letter s, that is put on day 99,999
abbrev pub Days : Type 0
Days = (row_of 0x73 ≡ Some scan) × (last_day scan 99999 ≡ 100729)

-- marks, letter m: a value of 24 bytes is within the limit, one of 25 is not
abbrev pub Marks : Type 0
Marks = (row_of 0x6D ≡ Some mark) × (nat_le 24 mark.longest ≡ true) × (nat_le 25 mark.longest ≡ false)

-- a draft of v bytes, put on day 0
abbrev pub D : List ℕ → ℕ → Rec
D key v = record { class = draft.class; last = last_day draft 0; key = key; value = replicate v 0 }

-- a and e with 115 bytes each have room in one bucket
abbrev pub level : List Rec
level = D (codes "a") 115 ∷ D (codes "e") 115 ∷ []

-- with one byte more they part at the sixth bit
abbrev pub over : List Rec
over = D (codes "a") 115 ∷ D (codes "e") 116 ∷ []

-- a and b, of the longest drafts, part at the first
abbrev pub apart : List Rec
apart = D (codes "a") 120 ∷ D (codes "b") 120 ∷ []

-- maps of two drafts under text keys: loads and buckets, each by its length and its bits, from left to right
abbrev pub Trees : Type 0
Trees =
    (loads texts level 0 0 ≡ 248)
    × (buckets (loads texts level) ≡ (0, 0) ∷ [])
    × (buckets (loads texts over) ≡ (1, 0b0) ∷ (2, 0b10) ∷ (3, 0b110) ∷ (5, 0b11100) ∷ (6, 0b111010) ∷ (6, 0b111011) ∷ (4, 0b1111) ∷ [])
    × (depth (loads texts apart) ≡ 1)

-- the whole list
abbrev pub Examples : Type 0
Examples = Checks × Keys × Days × Marks × Trees
