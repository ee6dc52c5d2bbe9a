use Rattle.std.proofs.Common.{◌≡◌, drop}
use Rattle.roll_frame.specs.Core.{row_possible}
use Rattle.roll_inputs.specs.Boards.{players_of}
use Rattle.roll_inputs.proofs.queues.allows.Given as goal

abbrev pub invariant-loop-place : goal.invariant-loop-place
invariant-loop-place l = row_possible l.frame (players_of l.queues) l.row ≡ row_possible l.frame (players_of (drop l.place l.queues)) (drop l.place l.row)
