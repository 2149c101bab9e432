-- Answers to a question.
use Rattle.std.specs.Prelude.{Bool, MatchBool}

-- the answer says whether P holds
abbrev pub Tells : Bool → Type 0 → Type 0
Tells b P = MatchBool b P (P → ⊥)
