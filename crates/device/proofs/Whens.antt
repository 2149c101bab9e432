-- Facts that a test chooses: how one is shown.
use Rattle.std.proofs.Common.{◌≡◌, Bool, true, false, MatchBool, sym, subst}

pub when_true : (b : Bool) (A B : Type 0) → b ≡ true → A → MatchBool b A B
when_true b A B e a = subst (λ (t : Bool). MatchBool t A B) (sym e) a

pub when_false : (b : Bool) (A B : Type 0) → b ≡ false → B → MatchBool b A B
when_false b A B e a = subst (λ (t : Bool). MatchBool t A B) (sym e) a

pub either_way : (b : Bool) (A B : Type 0) → A → B → MatchBool b A B
either_way true A B x y = x
either_way false A B x y = y
