use Rattle.std.proofs.Common.{arith}
use Rattle.std.proofs.lemmas.List.Edits.{map_over_more}
use Rattle.roll_inputs.specs.Boards.{started}
use Rattle.roll_inputs.proofs.queues.start_frames.Goals as goal

pub loop-queue-preserved : goal.loop-queue-preserved
loop-queue-preserved c =
    rw (c.start_frame.ensures, ← c.queue-item.is)
    (map_over_more started c.args.queues.now c.loop-queue.queues c.loop-queue.queue-index c.queue-item.result (omega arith) c.loop-queue.invariant c.queue-item.is)
