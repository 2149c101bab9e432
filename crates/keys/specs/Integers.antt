-- Integer keys: exactly 8 bytes, compared and hashed as they are.
use Rattle.std.specs.Prelude.{length, ◌==◌}
use Rattle.std.specs.Str.{bytes_eq}
use Rattle.crc.specs.Crc32.{crc_of}
use Rattle.keys.specs.Rule.{Rule}

-- the integer rule; `bytes_eq` is whether two rows have the same bytes in the same order
abbrev pub integers : Rule
integers = record {
  valid = λ k. (length k == 8);
  same = λ j k. bytes_eq j k;
  hash = λ k. crc_of k;
  kind = 1;
}
