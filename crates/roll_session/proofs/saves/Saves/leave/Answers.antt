use Rattle.std.proofs.Common.{◌≡◌, ◌∙◌, ap, length, refl}
use Rattle.roll_frame.specs.Inputs.{with_gone}
use Rattle.roll_inputs.specs.Boards.{Inputs}
use Rattle.roll_session.proofs.Playing.{count_reached, leaving_plays}
use Rattle.roll_session.proofs.Steps.{length_changed, retold, still_told}
use Rattle.roll_session.proofs.saves.Saves.leave.Goals as goal

pub change_rows-requires-clause-same : goal.change_rows-requires-clause-same
change_rows-requires-clause-same g c =
    let i = c.self.inside in
    let given = rw c.unwrap.ensures at c.disconnect.ensures.gone in
    let settled : c.disconnect.new.self.settled ≡ i.board.settled = ap (λ (b : Inputs). b.settled) given in
    rw (settled, c.count-count.ensures) (still_told i c.disconnect.new.self c.args.player c.self.invariant c.disconnect.ensures.cells)

pub cut_words-requires-clause-base : goal.cut_words-requires-clause-base
cut_words-requires-clause-base g c =
    let i = c.self.inside in
    let free = rw (← c.self.view_is) at c.requires in
    let count = count_reached i.board c.args.player (leaving_plays i.board c.args.player free) c.laws.ensures.ahead in
    rw (c.change_rows.ensures, c.self.invariant.base, c.count-count.ensures) count

pub invariant_of-self : goal.invariant_of-self
invariant_of-self g c =
    let i = c.self.inside in
    let given = rw c.unwrap.ensures at c.disconnect.ensures.gone in
    retold i c.disconnect.new.self c.cut_words.new.tree c.self.invariant (ap (λ (b : Inputs). b.settled) given) (ap (λ (b : Inputs). b.frame) given) (ap (λ (b : Inputs). length b.players) given ∙ length_changed with_gone i.board.players c.args.player) c.disconnect.ensures.rows
    (rw (c.cut_words.ensures, c.change_rows.ensures) refl) (rw (c.cut_words.ensures, c.change_rows.ensures) refl)
