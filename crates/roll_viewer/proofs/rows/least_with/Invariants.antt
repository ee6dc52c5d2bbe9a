use Rattle.std.proofs.Common.{◌≡◌, drop}
use Rattle.roll_viewer.specs.Rows.{least_with}
use Rattle.roll_viewer.proofs.rows.least_with.Given as goal

abbrev pub invariant-loop-count : goal.invariant-loop-count
invariant-loop-count l = least_with l.least (drop l.count-index l.counts) ≡ least_with l.most l.counts
