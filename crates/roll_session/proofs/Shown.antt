-- The last claim.
use Rattle.std.proofs.Common.{◌≡◌, ◌∙◌, Option, Some, None, false, Result, Ok, Err, ap, sym}
use Rattle.std.specs.Prelude.{is_none, option_map, IfOk, IfSome, OnOk}
use Rattle.std.proofs.lemmas.Bool.{false≢true}

-- where there is another value for one, and it is told of that one
pub told_of : {A B C E : Type 0} (f : A → B) (g : A → C) (o : Option A) (p : Option C) (result : Result B E) → p ≡ option_map g o → OnOk result (is_none p ≡ false) → IfOk result (λ b. IfSome o (λ a. b ≡ f a)) → IfOk result (λ b. option_map f o ≡ Some b)
told_of f g o p (Err e) same some told = tt
told_of f g None p (Ok b) same some told = absurd (false≢true (sym some ∙ ap is_none same))
told_of f g (Some a) p (Ok b) same some told = ap Some (sym told)
