-- Why a call is declined, as it is handed on.
use Rattle.std.proofs.Common.{◌≡◌, subst, sym, Result, Ok, Err}
use Rattle.std.specs.Prelude.{IfErr, IsErrAnd}

pub passed_on : {X E : Type 0} (result : Result X E) (why : E) (P : E → Type 0) → IsErrAnd result (λ error. error ≡ why) → P why → IfErr result P
passed_on (Ok x) why P h p = absurd h
passed_on (Err error) why P h p = subst P (sym h) p
