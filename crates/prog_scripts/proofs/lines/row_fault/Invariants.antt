use Rattle.std.proofs.Common.{map}
use Rattle.std.specs.List.{All}
use Rattle.prog_scripts.specs.Diagnoses.{IsCell}
use Rattle.prog_scripts.proofs.lines.row_fault.Given as goal

abbrev pub invariant-loop-part : goal.invariant-loop-part
invariant-loop-part l = All IsCell (map (λ part. part.now) l.yielded)
