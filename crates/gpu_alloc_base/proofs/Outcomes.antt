-- What holds of the value of an option or of a result.
use Rattle.std.proofs.Common.{◌≡◌, false, Option, Some, None, Result, Ok, Err, subst}
use Rattle.std.specs.Prelude.{OnOk, IfSome}
use Rattle.std.specs.Result.{is_err}

-- what holds where a call succeeded
pub when_ok : {X E : Type 0} {P : Type 0} (r : Result X E) → is_err r ≡ false → OnOk r P → P
when_ok (Ok x) e p = p
when_ok (Err x) e p = absurd (cc)

-- what holds of a value that is there
pub if_some : {X : Type 0} (P : X → Type 0) (o : Option X) (x : X) → o ≡ Some x → IfSome o P → P x
if_some P (Some y) x e p = let same : y ≡ x = cc in subst P same p
if_some P None x e p = absurd (cc)
