use Rattle.std.proofs.Common.{◌≡◌, ◌<◌, ◌≤◌, ◌-◌, ◌^◌, ℕ, List, true, length, get_or, sym, rules, arith}
use Rattle.std.specs.Str.{all_ascii_digits}
use Rattle.std.specs.Str.Parse.{digits_value}
use Rattle.std.proofs.lemmas.Bool.Decides.{nat_tests}
use Rattle.std.proofs.lemmas.Fmt.{decimal-digits_value}
use Rattle.std.proofs.Math.Nat.{lt_of_not-le}
use Rattle.std.proofs.lemmas.Str.Parse.{IsNumeralModel, numerals_by_value, tells_all_ascii_digits, digits_value_short}
use Rattle.prog_scripts.specs.Diagnoses.{IsNoNumber}
use Rattle.prog_scripts.proofs.lines.why_no_number.Goals as goal

own : IsNumeralModel (λ ds. all_ascii_digits ds ≡ true) (digits_value 10)
own = numerals_by_value _ tells_all_ascii_digits

-- digits without a leading zero are too many
too_large : (ds : List ℕ) → IsNoNumber ds → all_ascii_digits ds ≡ true → 0 < length ds → (get_or ds 0 0 ≡ 48 → length ds ≡ 1) → 2 ^ 32 ≤ digits_value 10 ds
too_large ds none digits some first =
    let over : 2 ^ 32 - 1 < digits_value 10 ds =
    lt_of_not-le (λ small. none (digits_value 10 ds) (omega arith) (sym (decimal-digits_value own ds digits some first (omega arith)))) in
    omega arith

-- a leading zero alone is a number
longer : (ds : List ℕ) → IsNoNumber ds → all_ascii_digits ds ≡ true → 0 < length ds → 1 < length ds
longer ds none digits some =
    lt_of_not-le (λ short. absurd (omega (arith, too_large ds none digits some (λ _. omega arith), digits_value_short own ds 1 digits short)))

pub returns-then-text-eq48 : goal.returns-then-text-eq48
returns-then-text-eq48 c =
    let some : 0 < length c.args.text.now = grind (arith, nat_tests) in
    let digits : all_ascii_digits c.args.text.now ≡ true = cc in
    (digits, search rules, longer c.args.text.now c.requires digits some)

pub returns-else-text-eq48 : goal.returns-else-text-eq48
returns-else-text-eq48 c =
    let some : 0 < length c.args.text.now = grind (arith, nat_tests) in
    let digits : all_ascii_digits c.args.text.now ≡ true = cc in
    (digits, search rules, too_large c.args.text.now c.requires digits some (λ zero. absurd (c.if-text-eq48.false zero)))
