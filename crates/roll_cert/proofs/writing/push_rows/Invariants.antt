use Rattle.std.proofs.Common.{◌≡◌, ◌++◌, map, take}
use Rattle.roll_text.specs.Lines.{text_of}
use Rattle.roll_cert.specs.Texts.{row_line}
use Rattle.roll_cert.proofs.writing.push_rows.Given as goal

abbrev pub invariant-loop-row : goal.invariant-loop-row
invariant-loop-row l = l.out.items ≡ l.initial.out.items ++ text_of (map row_line (take l.row-index l.rows))
