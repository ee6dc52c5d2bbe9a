use Rattle.std.proofs.Common.{◌≡◌, ◌∙◌, ◌-◌, ap, arith, length}
use Rattle.roll_frame.specs.Cells.{Rows}
use Rattle.roll_frame.proofs.Beginnings.{longest_within}
use Rattle.roll_inputs.specs.Boards.{Inputs}
use Rattle.roll_inputs.specs.Foretold.{foretold}
use Rattle.roll_tree.specs.SavedStates.{SavedStates, paths_of}
use Rattle.roll_session.proofs.Rows.{length-rows_from}
use Rattle.roll_session.proofs.guess.count_rerun.Goals as goal

pub overflow_sub-result : goal.overflow_sub-result
overflow_sub-result g c =
    let inputs : Inputs = c.board-2.result.now in
    let rows : length c.as_slice.result.now ≡ c.frame-frame.result - inputs.settled = ap (λ (r : Rows). length r) (c.as_slice.ensures.value ∙ c.foretold_rows-rows.ensures) ∙ length-rows_from (foretold inputs.players c.args.words.now) inputs.settled (c.frame-frame.result - inputs.settled) in
    omega (
      arith,
      rows,
      c.longest-end.ensures.length,
      ap (λ (t : SavedStates g.row.S.Denot). t.base) c.tree.ensures,
      ap (λ (b : Inputs). b.settled) c.board-2.ensures,
      c.frame-frame.ensures,
      ap (λ (b : Inputs). b.frame) c.board.ensures,
      c.laws.ensures.base,
      c.laws.ensures.reached,
      longest_within (paths_of c.tree.result.now) c.as_slice.result.now,
    )
