use Rattle.std.proofs.Common.{◌≡◌, ◌++◌, map, take, drop}
use Rattle.roll_inputs.specs.Boards.{started}
use Rattle.roll_inputs.proofs.queues.start_frames.Given as goal

abbrev pub invariant-loop-queue : goal.invariant-loop-queue
invariant-loop-queue l = l.queues ≡ map started (take l.queue-index l.fn.queues) ++ drop l.queue-index l.fn.queues
