use Rattle.std.proofs.Common.{◌∙◌, ap, sym}
use Rattle.std.proofs.lemmas.Simd.{map-map}
use Rattle.roll_frame.specs.Settings.{places}
use Rattle.roll_inputs.specs.Boards.{first_known, players_of}
use Rattle.roll_inputs.specs.Queues.{Known}
use Rattle.roll_inputs.proofs.Changes.{seen}
use Rattle.roll_inputs.proofs.Starts.{short_delays, first_board}
use Rattle.roll_inputs.proofs.board.Board.new.Goals as goal

pub first_queues-requires-clause-delays : goal.first_queues-requires-clause-delays
first_queues-requires-clause-delays c = short_delays c.args.settings.now (sym c.refusal.ensures.refused ∙ c.in_default.is)

pub invariant_of-result : goal.invariant_of-result
invariant_of-result c = rw c.in-Ok.ensures (first_board c.args.settings.now (sym c.refusal.ensures.refused ∙ c.in_default.is))

pub returns-clause-board : goal.returns-clause-board
returns-clause-board c =
    let settings = c.args.settings.now in
    ap (seen 0 0 settings.threshold settings.limit) (ap players_of c.in-Ok.ensures ∙ map-map (λ (q : Known). q.player) (first_known settings) (places settings))
