use Rattle.std.proofs.Common.{◌∙◌}
use Rattle.roll_session.proofs.Rows.{row_told}
use Rattle.roll_session.proofs.saves.Saves.told_row.Goals as goal

pub returns : goal.returns
returns g c =
    let i = c.self.inside in
    let low = rw (← c.self.view_is) at c.requires.from in
    let high = rw (← c.self.view_is) at c.requires.told in
    let read = rw c.settled.ensures at c.index-time-frame.is in
    rw (← c.self.view_is) (read ∙ row_told i.board.players i.board.settled c.args.frame c.time.result.now i.tree.time _ c.time.ensures.value c.self.invariant.told low high)
