use Rattle.std.proofs.Common.{◌≡◌}
use Rattle.roll_inputs.proofs.Begun.{begun}
use Rattle.roll_inputs.proofs.queue.Queue.new.Given as goal

abbrev pub invariant-loop-frame : goal.invariant-loop-frame
invariant-loop-frame l = l.queue ≡ begun l.settings l.place l.frame
