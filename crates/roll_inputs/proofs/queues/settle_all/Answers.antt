use Rattle.std.proofs.Common.{arith}
use Rattle.std.proofs.lemmas.List.Edits.{map_over_more}
use Rattle.roll_inputs.specs.Boards.{settled_to}
use Rattle.roll_inputs.proofs.queues.settle_all.Goals as goal

pub loop-queue-preserved : goal.loop-queue-preserved
loop-queue-preserved c =
    rw (c.settle.ensures, ← c.queue-item.is)
    (map_over_more (settled_to c.args.to) c.args.queues.now c.loop-queue.queues c.loop-queue.queue-index c.queue-item.result (omega arith) c.loop-queue.invariant c.queue-item.is)
