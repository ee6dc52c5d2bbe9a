use Rattle.roll_frame.proofs.Rest.{take-after_first}
use Rattle.roll_frame.proofs.row.Row.from_cells.Goals as goal

pub loop-cell-preserved : goal.loop-cell-preserved
loop-cell-preserved c = rw (c.push.ensures, c.loop-cell.invariant) (take-after_first c.args.cells.now c.loop-cell.cell-index _ c.loop-cell-test.true)
