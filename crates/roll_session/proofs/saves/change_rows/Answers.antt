use Rattle.std.proofs.Common.{◌≡◌, ◌∙◌, ap, arith, length}
use Rattle.roll_frame.specs.Cells.{Rows}
use Rattle.roll_session.specs.Standing.{rows_from}
use Rattle.roll_session.proofs.Rows.{length-rows_from}
use Rattle.roll_session.proofs.saves.change_rows.Goals as goal

pub mark-requires : goal.mark-requires
mark-requires g c =
    let b = c.args.board.now in
    let n = length c.args.tree.now.time in
    let all : c.as_slice.result.now ≡ rows_from b.players b.settled n = c.as_slice.ensures.value ∙ c.rows_of-rows.ensures ∙ ap (λ (time : Rows). rows_from b.players b.settled (length time)) c.time.ensures.value in
    let long = ap length all ∙ length-rows_from b.players b.settled n in
    record {
      short = omega (arith, long, c.time.ensures.few, ap length c.time.ensures.value);
      long = omega (arith, long);
      same = rw (all, c.requires.base) c.requires.same;
    }

pub returns : goal.returns
returns g c =
    let b = c.args.board.now in
    let all : c.as_slice.result.now ≡ rows_from b.players b.settled (length c.args.tree.now.time) = c.as_slice.ensures.value ∙ c.rows_of-rows.ensures ∙ ap (rows_from b.players b.settled) (ap length c.time.ensures.value) in
    rw c.mark.ensures (ap (λ (time : Rows). record c.args.tree.now { time = time }) all)
