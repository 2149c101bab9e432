-- A page that waits, or that a group has: its number above, and its bytes.
use Rattle.std.specs.Prelude.{ℕ, List}

pub record Entry : Type 0 where
  pub page : ℕ
  pub bytes : List ℕ
