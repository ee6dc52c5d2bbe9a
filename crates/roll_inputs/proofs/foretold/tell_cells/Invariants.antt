use Rattle.std.proofs.Common.{◌≡◌, take}
use Rattle.roll_frame.specs.Timeline.{row_at}
use Rattle.roll_inputs.specs.Boards.{players_of}
use Rattle.roll_inputs.specs.Foretold.{foretold}
use Rattle.roll_inputs.proofs.foretold.tell_cells.Given as goal

abbrev pub invariant-loop-word : goal.invariant-loop-word
invariant-loop-word l = l.cells ≡ row_at (foretold (players_of l.queues) (take l.word-index l.words)) l.frame
