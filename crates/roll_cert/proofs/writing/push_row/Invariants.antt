use Rattle.std.proofs.Common.{◌≡◌, ◌++◌, take}
use Rattle.roll_cert.specs.Texts.{cell_text}
use Rattle.roll_cert.proofs.Values.{joined_more}
use Rattle.roll_cert.proofs.writing.push_row.Given as goal

abbrev pub invariant-loop-cell : goal.invariant-loop-cell
invariant-loop-cell l = l.out.items ≡ l.initial.out.items ++ joined_more 44 cell_text (take l.cell-index l.others)
