use Rattle.std.proofs.Common.{◌≡◌, ◌∙◌, Some, ap, sym}
use Rattle.std.specs.Prelude.{option_and_then, slice_get}
use Rattle.roll_frame.specs.Inputs.{player_at}
use Rattle.roll_frame.specs.Timeline.{Player}
use Rattle.roll_inputs.specs.Boards.{Inputs}
use Rattle.roll_inputs.proofs.Replies.{IsFound, queue_found, found_step, has_past}
use Rattle.roll_inputs.proofs.board.Board.confirmed_word.Goals as goal

pub word-requires : goal.word-requires
word-requires c =
    let i = c.self.inside in
    let q = c.in_ok-queue.queue.now in
    let found : IsFound i.queues.items c.args.player q = queue_found i.queues.items c.args.player q (rw c.deref.ensures.value at c.in_ok-queue.ensures) in
    let at = ap (λ (b : Inputs). player_at b.players c.args.player) (sym c.self.view_is) ∙ found.player in
    let from = (found_step i.queues.items c.args.player i.frame i.settled i.threshold i.limit q c.self.invariant found).from ∙ ap (λ (b : Inputs). b.settled) c.self.view_is in
    rw c.from.ensures (has_past c.args.self.now.players c.args.past.now.rows c.args.player c.args.self.now.settled q c.requires at from)

pub returns : goal.returns
returns c =
    let i = c.self.inside in
    let q = c.in_ok-queue.queue.now in
    let found : IsFound i.queues.items c.args.player q = queue_found i.queues.items c.args.player q (rw c.deref.ensures.value at c.in_ok-queue.ensures) in
    let at : player_at c.args.self.now.players c.args.player ≡ Some q.player = ap (λ (b : Inputs). player_at b.players c.args.player) (sym c.self.view_is) ∙ found.player in
    c.word.ensures ∙ ap (λ o. option_and_then (λ (p : Player). slice_get p.words c.args.frame) o) (sym at)
