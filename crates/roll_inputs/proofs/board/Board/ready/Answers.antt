use Rattle.std.proofs.Common.{◌∙◌, ap, sym, not}
use Rattle.std.specs.Prelude.{◌&&◌}
use Rattle.roll_frame.specs.Timeline.{Player}
use Rattle.roll_inputs.specs.Queues.{Known}
use Rattle.roll_inputs.proofs.Steps.{list_any-map}
use Rattle.roll_inputs.proofs.board.Board.ready.Goals as goal

pub returns : goal.returns
returns c =
    rw (← c.self.view_is)
    (ap not (c.is_missing.ensures ∙ (rw c.deref.ensures.value (sym (list_any-map (λ (player : Player). player.local && not player.given) (λ (q : Known). q.player) c.self.inside.queues.items)))))
