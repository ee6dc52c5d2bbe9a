use Rattle.std.proofs.Common.{◌≡◌, ◌≤◌, take}
use Rattle.std.specs.Str.Parse.{digits_value}
use Rattle.roll_text.specs.Numbers.{AreDigits}
use Rattle.roll_text.specs.declared.decimal.TheConstants.{DIGIT_LIMIT}
use Rattle.roll_text.proofs.decimal.leading_digits.Given as goal

abbrev pub invariant-loop-count : goal.invariant-loop-count
invariant-loop-count l = record {
  few : l.count ≤ DIGIT_LIMIT;
  digits : AreDigits l.count l.text;
  value : l.n ≡ digits_value 10 (take l.count l.text);
}
