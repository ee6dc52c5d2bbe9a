use Rattle.std.proofs.Common.{◌≡◌, ◌++◌, take}
use Rattle.roll_cert.specs.Texts.{row_line}
use Rattle.roll_cert.proofs.Values.{joined_more}
use Rattle.roll_cert.proofs.writing.push_path.Given as goal

abbrev pub invariant-loop-row : goal.invariant-loop-row
invariant-loop-row l = l.out.items ≡ l.initial.out.items ++ joined_more 32 row_line (take l.row-index l.others)
