-- Tests that are followed by more tests.
use Rattle.std.proofs.Common.{◌≡◌, List, [], ◌∷◌, ◌++◌, refl, Bool, true, false, None, Some, Option, cond, sym}
use Rattle.std.specs.Option.{is_some}
use Rattle.std.proofs.lemmas.Bool.{false≢true}
use Rattle.roll_frame.specs.Refusals.{first_refusal}
use Rattle.roll_frame.specs.declared.refusal.Refusal.{Refusal}
use Rattle.roll_frame.proofs.Refused.{all_fail, first_refusal-behind}

-- tests of which one fails
pub first_refusal-some : (tests more : List (Bool × Refusal)) (why : Refusal) → first_refusal tests ≡ Some why → first_refusal (tests ++ more) ≡ Some why
first_refusal-some [] more why h = cc
first_refusal-some (test ∷ tests) more why h = failed test.0 test.1 (first_refusal tests) (first_refusal (tests ++ more)) why (first_refusal-some tests more why) h
  where
    failed : (t : Bool) (first : Refusal) (o p : Option Refusal) (why : Refusal) → (o ≡ Some why → p ≡ Some why) → cond t (Some first) o ≡ Some why → cond t (Some first) p ≡ Some why
    failed true first o p why rest h = h
    failed false first o p why rest h = rest h

-- tests of which none fails, of which these are the first
pub first_refusal-front : (tests more : List (Bool × Refusal)) → first_refusal (tests ++ more) ≡ None → first_refusal tests ≡ None
first_refusal-front [] more h = refl
first_refusal-front (test ∷ tests) more h = passed test.0 test.1 (first_refusal-front tests more) h
  where
    passed : (t : Bool) (first : Refusal) → (first_refusal (tests ++ more) ≡ None → first_refusal tests ≡ None) → cond t (Some first) (first_refusal (tests ++ more)) ≡ None → cond t (Some first) (first_refusal tests) ≡ None
    passed true first rest h = h
    passed false first rest h = rest h

-- the first refusal of tests, or that of the tests behind them
pub is_first : (tests more : List (Bool × Refusal)) (o : Option Refusal) → o ≡ first_refusal tests → is_some o ≡ true → o ≡ first_refusal (tests ++ more)
is_first tests more None e some = absurd (false≢true some)
is_first tests more (Some why) e some = sym (first_refusal-some tests more why (sym e))

pub is_behind : (tests more : List (Bool × Refusal)) (o : Option Refusal) → o ≡ first_refusal tests → is_some o ≡ false → first_refusal (tests ++ more) ≡ first_refusal more
is_behind tests more (Some why) e none = absurd (false≢true (sym none))
is_behind tests more None e none = first_refusal-behind tests more (all_fail tests (sym e))
