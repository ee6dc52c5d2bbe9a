use Rattle.std.proofs.Common.{ℕ, List, map}
use Rattle.std.specs.List.{All}
use Rattle.prog_scripts.specs.declared.lines.Item.{Item}
use Rattle.prog_scripts.specs.Diagnoses.{IsFit}
use Rattle.prog_scripts.proofs.lines.fields_fault.Given as goal

abbrev pub invariant-loop-field : goal.invariant-loop-field
invariant-loop-field l = All (λ (pair : List ℕ × Item). IsFit pair.1 pair.0) (map (λ pair. (pair.0.now, pair.1.now)) l.yielded)
