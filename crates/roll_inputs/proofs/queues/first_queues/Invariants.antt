use Rattle.std.proofs.Common.{◌≡◌, map}
use Rattle.std.specs.List.{range_with_len}
use Rattle.roll_inputs.specs.Boards.{first_known}
use Rattle.roll_inputs.proofs.queues.first_queues.Given as goal

abbrev pub invariant-loop-place : goal.invariant-loop-place
invariant-loop-place l = l.queues.items ≡ map (first_known l.settings) (range_with_len 0 l.place)
