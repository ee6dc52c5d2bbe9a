-- What is known where no test of a list holds.
use Rattle.std.proofs.Common.{◌≡◌, ◌⊎◌, ◌≤◌, ℕ, List, [], ◌∷◌, ◌++◌, refl, Bool, true, false, None, Some, inl, inr, not}
use Rattle.std.specs.Prelude.{nat_le}
use Rattle.std.specs.Int.{is_in_range}
use Rattle.std.proofs.lemmas.Bool.{and_parts, cases_Bool, leb-true, not-false}
use Rattle.roll_frame.specs.Refusals.{first_refusal}
use Rattle.roll_frame.specs.declared.refusal.Refusal.{Refusal}

abbrev pub AllFail : List (Bool × Refusal) → Type 0
AllFail [] = Unit {0}
AllFail (test ∷ tests) = (test.0 ≡ false) × AllFail tests

pub all_fail : (tests : List (Bool × Refusal)) → first_refusal tests ≡ None → AllFail tests
all_fail [] e = tt
all_fail (test ∷ tests) e = by_test (cases_Bool test.0) (all_fail tests)
  where
    by_test : (test.0 ≡ true) ⊎ (test.0 ≡ false) → (first_refusal tests ≡ None → AllFail tests) → AllFail (test ∷ tests)
    by_test (inl holds) rest = let none : Some test.1 ≡ None = rw holds at e in absurd (cc none)
    by_test (inr fails) rest = (fails, rest (rw fails at e))

-- tests that fail are passed over
pub first_refusal-behind : (tests more : List (Bool × Refusal)) → AllFail tests → first_refusal (tests ++ more) ≡ first_refusal more
first_refusal-behind [] more h = refl
first_refusal-behind (test ∷ tests) more h = rw h.0 (first_refusal-behind tests more h.1)

-- the limits of a range whose test passes
pub in_range : (low high n : ℕ) → not (is_in_range low high n) ≡ false → (low ≤ n) × (n ≤ high)
in_range low high n h =
    let parts = and_parts (nat_le low n) (nat_le n high) (not-false (is_in_range low high n) h) in
    (leb-true low n parts.0, leb-true n high parts.1)
