use Rattle.std.proofs.Common.{◌∙◌, ap, sym, length}
use Rattle.std.proofs.lemmas.List.{length-map}
use Rattle.roll_inputs.specs.Boards.{players_of}
use Rattle.roll_inputs.specs.Queues.{Known}
use Rattle.roll_inputs.proofs.Allowed.{other_width}
use Rattle.roll_inputs.proofs.queues.allows.Goals as goal

pub returns-then-len-queues : goal.returns-then-len-queues
returns-then-len-queues c =
    sym (other_width c.args.frame (players_of c.args.queues.now) c.args.row.now (λ e. c.if-len-queues.true (c.len.ensures.value ∙ ap length c.cells-cells.ensures ∙ e ∙ length-map c.args.queues.now (λ (q : Known). q.player))))
