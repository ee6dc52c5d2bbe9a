use Rattle.std.proofs.Common.{◌∙◌, ap}
use Rattle.std.specs.Prelude.{slice_get}
use Rattle.roll_frame.specs.Cells.{Rows}
use Rattle.roll_session.proofs.Rolling.{settled_read}
use Rattle.roll_session.proofs.saves.Saves.settled_row.Goals as goal

pub returns : goal.returns
returns g c =
    let i = c.self.inside in
    rw (← c.self.view_is) (c.get.ensures ∙ ap (λ (rows : Rows). slice_get rows c.args.frame) c.self.invariant.past ∙ settled_read i.board.players i.board.settled c.args.frame)
