use Rattle.std.proofs.Common.{◌≡◌, ◌+◌, ◌++◌, length}
use Rattle.std.specs.List.{AllByRecursion}
use Rattle.roll_cert.specs.Texts.{IsRowOf}
use Rattle.roll_text.specs.Lines.{text_of}
use Rattle.roll_text.proofs.Headed.{lines_so_far}
use Rattle.prog_scripts.proofs.RowsRead.{files}
use Rattle.prog_scripts.proofs.rows_file.RowsFile.read.Given as goal

abbrev pub invariant-loop-rest : goal.invariant-loop-rest
invariant-loop-rest l = record {
  whole : l.fn.text ≡ text_of (lines_so_far files l.players l.rows.items) ++ l.rest;
  each : AllByRecursion (IsRowOf l.players) l.rows.items;
  count : l.line ≡ length l.rows.items + 2;
}

abbrev pub decreases-loop-rest : goal.decreases-loop-rest
decreases-loop-rest l = length l.rest
