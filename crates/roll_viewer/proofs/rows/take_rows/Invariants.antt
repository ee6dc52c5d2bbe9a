use Rattle.roll_wire.specs.Spelling.{turn}
use Rattle.roll_viewer.proofs.Taken.{AreTakenTo}
use Rattle.roll_viewer.proofs.rows.take_rows.Given as goal

abbrev pub invariant-loop-index : goal.invariant-loop-index
invariant-loop-index l = AreTakenTo l.players (turn l.play) l.fn.queue l.queue l.from l.index
