use Rattle.std.proofs.Common.{◌≡◌, ◌+◌, map, take}
use Rattle.roll_frame.specs.Timeline.{cell_at}
use Rattle.roll_inputs.proofs.queues.row_at.Given as goal

abbrev pub invariant-loop-queue : goal.invariant-loop-queue
invariant-loop-queue l = l.row ≡ map (λ q. cell_at l.frame q.player) (take (l.queue-index + 1) l.queues)
