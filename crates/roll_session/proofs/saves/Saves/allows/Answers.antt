use Rattle.std.proofs.Common.{◌≡◌, ◌<◌, ◌≤◌, false, true, ◌∙◌, ap, length, arith, nat_lt, List, Option, Some}
use Rattle.std.specs.Option.{option_eq}
use Rattle.std.proofs.lemmas.Bool.Decides.{nat_tests}
use Rattle.std.proofs.lemmas.List.Elements.{recursion_from_All}
use Rattle.roll_frame.specs.declared.row.Cell.{Cell}
use Rattle.roll_frame.specs.Cells.{row_eq}
use Rattle.roll_frame.specs.Timeline.{Player, row_at}
use Rattle.roll_session.proofs.Placed.{row_known}
use Rattle.roll_session.proofs.saves.Saves.allows.Goals as goal

pub returns-then-frame-settled : goal.returns-then-frame-settled
returns-then-frame-settled g c =
    let i = c.self.inside in
    let below : c.args.frame < i.board.settled = omega arith in
    let yes : nat_lt c.args.frame i.board.settled ≡ true = grind (arith, nat_tests) in
    let read : c.settled_row.result ≡ Some (row_at i.board.players c.args.frame) = rw yes at (rw (← c.self.view_is) at c.settled_row.ensures) in
    rw (← c.self.view_is) (c.eq.ensures ∙ ap (λ (row : Option (List Cell)). option_eq row_eq (Some c.args.row.now) row) read ∙ row_known i.board.settled c.args.frame i.board.players c.args.row.now (recursion_from_All (λ (p : Player). p.gone ≡ false → i.board.settled ≤ length p.words) i.board.players c.laws.ensures.ahead) below)
