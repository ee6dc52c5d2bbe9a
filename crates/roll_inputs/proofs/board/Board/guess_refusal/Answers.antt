use Rattle.std.proofs.Common.{◌≡◌, ◌∙◌, Some, ap, arith, false, length, sym}
use Rattle.std.proofs.lemmas.Bool.{eqb-false}
use Rattle.roll_frame.specs.declared.limits.TheConstants.{PATH_LIMIT}
use Rattle.roll_frame.specs.Inputs.{player_at}
use Rattle.roll_inputs.specs.Boards.{Inputs}
use Rattle.roll_inputs.proofs.Replies.{queue_found}
use Rattle.roll_inputs.proofs.Told.{some_few}
use Rattle.roll_inputs.proofs.board.Board.guess_refusal.Goals as goal

pub returns-else-words-gt-PATH_LIMIT : goal.returns-else-words-gt-PATH_LIMIT
returns-else-words-gt-PATH_LIMIT c =
    let q = c.in-Some.queue.now in
    let found = queue_found c.self.inside.queues.items c.args.player q (rw c.deref.ensures.value at c.in-Some.ensures) in
    let at : player_at c.args.self.now.players c.args.player ≡ Some q.player = ap (λ (b : Inputs). player_at b.players c.args.player) (sym c.self.view_is) ∙ found.player in
    let there : q.player.gone ≡ false = sym c.is_gone.ensures ∙ c.if-is_gone.false in
    let some = eqb-false (length c.args.words.now) 0 (sym c.is_empty.ensures ∙ c.if-words-gt-PATH_LIMIT.false.0) in
    rw (at, there, some_few (length c.args.words.now) PATH_LIMIT (omega (arith, some)) (omega (arith, c.if-words-gt-PATH_LIMIT.false.1))) c.until_refusal.ensures
