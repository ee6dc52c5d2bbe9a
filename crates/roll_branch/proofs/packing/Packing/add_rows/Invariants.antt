use Rattle.std.proofs.Common.{◌≡◌, ◌++◌, take}
use Rattle.roll_branch.proofs.packing.Packing.add_rows.Given as goal

abbrev pub invariant-loop-row : goal.invariant-loop-row
invariant-loop-row l = l.self ≡ l.fn.self ++ take l.row-index l.rows
