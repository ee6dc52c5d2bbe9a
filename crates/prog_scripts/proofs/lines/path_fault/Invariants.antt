use Rattle.std.proofs.Common.{map}
use Rattle.std.specs.List.{All}
use Rattle.prog_scripts.specs.declared.lines.Item.TheVariants.{Row}
use Rattle.prog_scripts.specs.Diagnoses.{IsFit}
use Rattle.prog_scripts.proofs.lines.path_fault.Given as goal

abbrev pub invariant-loop-row : goal.invariant-loop-row
invariant-loop-row l = All (IsFit (Row l.players)) (map (λ row. row.now) l.yielded)
