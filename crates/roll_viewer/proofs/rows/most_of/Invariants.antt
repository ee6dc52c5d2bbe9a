use Rattle.std.proofs.Common.{◌≡◌, drop, max}
use Rattle.roll_viewer.specs.Rows.{most_of}
use Rattle.roll_viewer.proofs.rows.most_of.Given as goal

abbrev pub invariant-loop-count : goal.invariant-loop-count
invariant-loop-count l = max l.most (most_of (drop l.count-index l.counts)) ≡ most_of l.counts
