use Rattle.std.proofs.Common.{◌≡◌, fold, take, None}
use Rattle.roll_inputs.proofs.Fronts.{lesser_of, remaining}
use Rattle.roll_inputs.proofs.queues.front.Given as goal

abbrev pub invariant-loop-queue : goal.invariant-loop-queue
invariant-loop-queue l = l.least ≡ fold lesser_of None (remaining (take l.queue-index l.queues))
