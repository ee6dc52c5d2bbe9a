use Rattle.std.proofs.Common.{◌≡◌, take}
use Rattle.roll_frame.proofs.row.Row.cells.Given as goal

abbrev pub invariant-loop-index : goal.invariant-loop-index
invariant-loop-index l = l.cells.items ≡ take l.index l.self
