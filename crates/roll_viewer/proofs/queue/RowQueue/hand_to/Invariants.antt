use Rattle.std.proofs.Common.{length}
use Rattle.roll_viewer.proofs.Handing.{IsHandedTo}
use Rattle.roll_viewer.proofs.queue.RowQueue.hand_to.Given as goal

abbrev pub invariant-loop-row : goal.invariant-loop-row
invariant-loop-row l = IsHandedTo l.fn.self l.self l.fn.sender l.sender l.count

abbrev pub decreases-loop-row : goal.decreases-loop-row
decreases-loop-row l = length l.self.waiting
