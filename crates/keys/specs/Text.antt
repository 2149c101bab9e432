-- Text keys: 1 to 32 bytes from 0x21 to 0x7E, compared and hashed with A to Z made a to z.
use Rattle.std.specs.Prelude.{ℕ, ◌+◌, Bool, cond, ◌&&◌, map, length, nat_le, nat_lt}
use Rattle.std.specs.List.{list_all}
use Rattle.std.specs.Str.{bytes_eq}
use Rattle.crc.specs.Crc32.{crc_of}
use Rattle.keys.specs.Rule.{Rule}

-- a byte that a text key may hold: a printed character of ASCII, the space left out
abbrev pub graphic : ℕ → Bool
graphic x = nat_le 0x21 x && nat_le x 0x7E

-- A to Z becomes a to z: bytes below A, 0x41, stay, those below 0x5B, up to Z, move 0x20 up, the others stay
abbrev pub lowered : ℕ → ℕ
lowered x = cond (nat_lt x 0x41) x (cond (nat_lt x 0x5B) (x + 0x20) x)

-- the text rule; `bytes_eq` is whether two rows have the same bytes in the same order
abbrev pub texts : Rule
texts = record {
  valid = λ k. nat_le 1 (length k) && (nat_le (length k) 32 && list_all graphic k);
  same = λ j k. bytes_eq (map lowered j) (map lowered k);
  hash = λ k. crc_of (map lowered k);
  kind = 2;
}
