-- CRC-32 of IEEE 802.3, as the shift register that the standard describes. It takes the message one bit at a time, the lowest bit
-- of each byte first. Assumes nothing.
use Rattle.std.specs.Prelude.{◌≡◌, ℕ, zero, suc, ◌-◌, ◌/◌, ◌%◌, cond, List, fold, ◌==◌, bit_xor}

-- One bit of the message, the lowest of `x`, enters the register `c`: the register moves down by one place, and where the bit that
-- leaves it is not the one that enters, the polynomial is added.
abbrev pub bit_in : ℕ → ℕ → ℕ
bit_in c x = cond (c % 2 == x % 2) (c / 2) (bit_xor (c / 2) 0xEDB8_8320)

-- the `n` lowest bits of `x`, the lowest first
abbrev pub bits_in : ℕ → ℕ → ℕ → ℕ
bits_in zero c x = c
bits_in (suc n) c x = bits_in n (bit_in c x) (x / 2)

-- `n` zeros enter the register
unfoldable pub zeros_in : ℕ → ℕ → ℕ
zeros_in n c = bits_in n c 0

-- one byte enters the register
unfoldable pub byte_in : ℕ → ℕ → ℕ
byte_in c x = bits_in 8 c x

-- the register after a row of bytes
abbrev pub register : ℕ → List ℕ → ℕ
register c xs = fold byte_in c xs

-- the register c is that after the message xs
abbrev pub After : List ℕ → ℕ → Type 0
After xs c = c ≡ register 0xFFFF_FFFF xs

-- The register starts full of ones, and its complement is the check.
abbrev pub crc_of : List ℕ → ℕ
crc_of xs = 0xFFFF_FFFF - register 0xFFFF_FFFF xs
