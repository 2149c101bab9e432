-- What is there, and what is not.
use Rattle.std.proofs.Common.{◌≡◌, true, false, Option, Some, None, Err, Result, refl}
use Rattle.std.specs.Option.{ok_or, is_some}

-- the refusal for what is not there
pub refused_by : {T E : Type 0} (o : Option T) (y e : E) → ◌≡◌ {A = Result T E} (Err y) (ok_or o e) → y ≡ e
refused_by None y e h = cc
refused_by (Some x) y e h = cc

pub there : {T : Type 0} (o : Option T) → is_some o ≡ true → (x : T) × (o ≡ Some x)
there None e = cc
there (Some x) e = (x, refl)

pub not_there : {T : Type 0} (o : Option T) → is_some o ≡ false → o ≡ None
not_there None e = refl
not_there (Some x) e = cc
