-- Prefixes of hashes. Bits count from the most significant. A prefix is a length n, and n bits read as a number.
use Rattle.std.specs.Prelude.{ℕ, ◌+◌, ◌-◌, ◌*◌, ◌/◌, ◌%◌, ◌^◌}

-- the first n bits of the number x of w bits: of a hash where w is 32, of an entry of the directory where w is the depth
abbrev pub pre : ℕ → ℕ → ℕ → ℕ
pre w x n = x / 2 ^ (w - n)

-- the sibling of a prefix: it differs in the last bit alone
abbrev pub sib : ℕ → ℕ
sib p = p + 1 - 2 * (p % 2)
