use Rattle.std.proofs.Common.{◌≡◌, ◌++◌, take}
use Rattle.roll_inputs.proofs.record.Record.append.Given as goal

abbrev pub invariant-loop-row : goal.invariant-loop-row
invariant-loop-row l = l.self ≡ record l.fn.self { rows = l.fn.self.rows ++ take l.row-index l.rows }
