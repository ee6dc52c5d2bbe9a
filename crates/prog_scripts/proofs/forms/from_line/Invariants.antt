use Rattle.std.proofs.Common.{◌≡◌, ◌≤◌, ◌-◌, drop}
use Rattle.roll_text.specs.Lines.{lines_of}
use Rattle.prog_scripts.proofs.forms.from_line.Given as goal

abbrev pub invariant-loop : goal.invariant-loop
invariant-loop l = record {
  left : lines_of l.rest ≡ drop (l.counter - 1) (lines_of l.text);
  within : l.counter - 1 ≤ l.number - 1;
}
