use Rattle.std.proofs.Common.{◌≡◌, ◌++◌, map, take, drop}
use Rattle.roll_inputs.specs.Boards.{settled_to}
use Rattle.roll_inputs.proofs.queues.settle_all.Given as goal

abbrev pub invariant-loop-queue : goal.invariant-loop-queue
invariant-loop-queue l = l.queues ≡ map (settled_to l.to) (take l.queue-index l.fn.queues) ++ drop l.queue-index l.fn.queues
