use Rattle.std.proofs.Common.{◌≡◌, map, take}
use Rattle.std.specs.List.{AllByRecursion}
use Rattle.roll_cert.specs.Texts.{IsCell, cell_text}
use Rattle.roll_cert.proofs.parts.read_row.Given as goal

abbrev pub invariant-loop-part : goal.invariant-loop-part
invariant-loop-part l = record { fit : AllByRecursion IsCell l.cells.items; read : map cell_text l.cells.items ≡ map (λ part. part.now) (take l.part-index l.part-items) }
