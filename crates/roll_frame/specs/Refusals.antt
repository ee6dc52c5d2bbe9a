-- Why a call is refused: its tests in their order, each with its refusal.
use Rattle.std.specs.Prelude.{List, [], ◌∷◌, Bool, Option, Some, None, if◌then◌else◌}
use Rattle.roll_frame.specs.declared.refusal.Refusal.{Refusal}

-- the refusal of the first test that holds
abbrev pub first_refusal : List (Bool × Refusal) → Option Refusal
first_refusal [] = None
first_refusal (test ∷ tests) = if test.0 then Some test.1 else first_refusal tests
