-- What holds of an answer holds also of what follows from it.
use Rattle.std.proofs.Common.{Ok, Err, Result}
use Rattle.std.specs.Prelude.{IfErr, IfOk, OnOk}

pub on_ok : {A E P Q : Type 0} (r : Result A E) → (P → Q) → OnOk r P → OnOk r Q
on_ok (Ok x) f p = f p
on_ok (Err why) f p = p

pub if_ok : {A E : Type 0} (P Q : A → Type 0) (r : Result A E) → ((x : A) → P x → Q x) → IfOk r P → IfOk r Q
if_ok P Q (Ok x) f p = f x p
if_ok P Q (Err why) f p = p

pub if_err : {A E : Type 0} (P Q : E → Type 0) (r : Result A E) → ((why : E) → P why → Q why) → IfErr r P → IfErr r Q
if_err P Q (Ok x) f p = p
if_err P Q (Err why) f p = f why p
