use Rattle.std.proofs.Common.{◌≡◌, ◌+◌, ◌∙◌, ◌++◌, ◌∷◌, [], ap, sym, arith, length}
use Rattle.roll_frame.specs.Cells.{Rows}
use Rattle.roll_frame.specs.Timeline.{row_at}
use Rattle.roll_tree.specs.SavedStates.{SavedStates}
use Rattle.roll_session.specs.Standing.{rows_from}
use Rattle.roll_session.proofs.Rows.{length-rows_from, rows_from-more}
use Rattle.roll_session.proofs.saves.extend_time.Goals as goal

pub loop-frame-preserved : goal.loop-frame-preserved
loop-frame-preserved g c =
    let b = c.args.board.now in
    let t = c.loop-frame.tree in
    let inv = c.loop-frame.invariant in
    let n = length t.time in
    let row : c.row.result ≡ row_at b.players (b.settled + n) = c.row.ensures ∙ ap (row_at b.players) inv.at in
    let time : t.time ++ c.row.result ∷ [] ≡ rows_from b.players b.settled (n + 1) =
    ap (λ (q : Rows). q ++ c.row.result ∷ []) inv.told ∙ ap (λ r. rows_from b.players b.settled n ++ r ∷ []) row ∙ sym (rows_from-more b.players b.settled n) in
    let long = ap length time ∙ length-rows_from b.players b.settled (n + 1) in
    rw c.tell.ensures (record {
      same = ap (λ (k : SavedStates g.row.S.Denot). record k { time = t.time ++ c.row.result ∷ [] }) inv.same;
      told = time ∙ ap (rows_from b.players b.settled) (sym long);
      at = omega (arith, long, inv.at);
    })
