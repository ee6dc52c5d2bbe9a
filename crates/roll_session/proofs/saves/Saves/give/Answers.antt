use Rattle.std.proofs.Common.{◌≡◌, ◌∙◌, ◌-◌, ◌≤◌, length, true, ap, refl, subst, sym}
use Rattle.roll_frame.specs.Cells.{Rows}
use Rattle.roll_frame.specs.Inputs.{with_given}
use Rattle.roll_inputs.specs.Boards.{Inputs, count_of}
use Rattle.roll_session.specs.Saves.{has_word}
use Rattle.roll_session.proofs.Foreseen.{HasGiven, told_stays}
use Rattle.roll_session.proofs.Playing.{count_is, count_reached, local_plays}
use Rattle.roll_session.proofs.Steps.{length_changed, retold, still_told}
use Rattle.roll_session.proofs.saves.Saves.give.Goals as goal

pub change_word-requires-clause-same : goal.change_word-requires-clause-same
change_word-requires-clause-same g c =
    let i = c.self.inside in
    let given = rw c.unwrap.ensures at c.local.ensures.given in
    let settled : c.local.new.self.settled ≡ i.board.settled = ap (λ (b : Inputs). b.settled) given in
    rw (settled, c.count-count.ensures) (still_told i c.local.new.self c.args.player c.self.invariant c.local.ensures.cells)

pub cut-requires : goal.cut-requires
cut-requires g c =
    let i = c.self.inside in
    let free = rw (← c.self.view_is) at c.requires in
    let count = count_reached i.board c.args.player (local_plays i.board c.args.player c.laws.ensures.stays free) c.laws.ensures.ahead in
    rw (c.change_word.ensures, c.self.invariant.base, c.count-count.ensures) count

pub invariant_of-self : goal.invariant_of-self
invariant_of-self g c =
    let i = c.self.inside in
    let given = rw c.unwrap.ensures at c.local.ensures.given in
    retold i c.local.new.self c.cut.new.self c.self.invariant (ap (λ (b : Inputs). b.settled) given) (ap (λ (b : Inputs). b.frame) given) (ap (λ (b : Inputs). length b.players) given ∙ length_changed (with_given c.args.word) i.board.players c.args.player) c.local.ensures.rows
    (rw (c.cut.ensures, c.change_word.ensures) refl) (rw (c.cut.ensures, c.change_word.ensures) refl)

pub change_word-requires-clause-early : goal.change_word-requires-clause-early
change_word-requires-clause-early g c =
    let i = c.self.inside in
    let free = rw (← c.self.view_is) at c.requires in
    let given = rw c.unwrap.ensures at c.local.ensures.given in
    let settled : c.local.new.self.settled ≡ i.board.settled = ap (λ (b : Inputs). b.settled) given in
    rw (settled, c.count-count.ensures) (count_reached i.board c.args.player (local_plays i.board c.args.player c.laws.ensures.stays free) c.laws.ensures.ahead)

pub change_word-requires-clause-told : goal.change_word-requires-clause-told
change_word-requires-clause-told g c told =
    let i = c.self.inside in
    let free = rw (← c.self.view_is) at c.requires in
    let given = rw c.unwrap.ensures at c.local.ensures.given in
    let it = local_plays i.board c.args.player c.laws.ensures.stays free in
    let low = subst (λ n. i.board.settled ≤ n) (count_is i.board c.args.player it) (count_reached i.board c.args.player it c.laws.ensures.ahead) in
    let gives : HasGiven it.player (with_given c.args.word it.player) c.args.word = record { words = refl; mask = refl; here = it.here; there = it.here } in
    let time = c.self.invariant.told in
    let has : has_word i.tree.time (count_of i.board.players c.args.player - i.board.settled) (c.args.player - 1) c.args.word ≡ true = rw (given, c.count-count.ensures) at told in
    let there = subst (λ (rows : Rows). has_word rows (count_of i.board.players c.args.player - i.board.settled) (c.args.player - 1) c.args.word ≡ true) time has in
    rw given (told_stays i.board (with_given c.args.word) c.args.player (length i.tree.time) c.args.word it gives low there ∙ sym time)
