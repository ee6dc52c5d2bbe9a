use Rattle.std.proofs.Common.{map}
use Rattle.std.specs.List.{All}
use Rattle.prog_scripts.specs.Diagnoses.{IsNumber}
use Rattle.prog_scripts.proofs.lines.list_fault.Given as goal

abbrev pub invariant-loop-part : goal.invariant-loop-part
invariant-loop-part l = All IsNumber (map (λ part. part.now) l.yielded)
