-- Key rules. A key is a row of bytes, and a rule says which rows are keys and which of them are one and the same key.
use Rattle.std.specs.Prelude.{◌≡◌, ℕ, ◌^◌, ◌<◌, ◌≤◌, Bool, true, List, length}

pub record Rule : Type 0 where
  -- whether a row of bytes is a key
  pub valid : List ℕ → Bool
  -- whether two keys are the same: one may be another spelling of the other
  pub same : List ℕ → List ℕ → Bool
  -- the number of 32 bits by which a key is filed
  pub hash : List ℕ → ℕ
  -- the byte that names the rule in what is stored
  pub kind : ℕ

-- The laws of a rule. All but the last speak of valid keys alone.
pub record Lawful (rule : Rule) : Type 0 where
  -- a key has at most 32 bytes
  pub short : (k : List ℕ) → rule.valid k ≡ true → length k ≤ 32
  -- a key is the same as itself
  pub reflexive : (k : List ℕ) → rule.valid k ≡ true → rule.same k k ≡ true
  -- it does not matter which of two keys comes first
  pub symmetric : (j k : List ℕ) → rule.valid j ≡ true → rule.valid k ≡ true → rule.same j k ≡ true → rule.same k j ≡ true
  -- two keys that are the same as a third are the same
  pub transitive : (i j k : List ℕ) → rule.valid i ≡ true → rule.valid j ≡ true → rule.valid k ≡ true → rule.same i j ≡ true → rule.same j k ≡ true → rule.same i k ≡ true
  -- two keys that are the same have equal hashes
  pub hashes : (j k : List ℕ) → rule.valid j ≡ true → rule.valid k ≡ true → rule.same j k ≡ true → rule.hash j ≡ rule.hash k
  -- a hash has 32 bits, whatever the bytes
  pub bits : (k : List ℕ) → rule.hash k < 2 ^ 32
