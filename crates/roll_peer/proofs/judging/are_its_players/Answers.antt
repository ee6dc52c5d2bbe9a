use Rattle.std.proofs.Common.{◌∙◌, sym, arith}
use Rattle.roll_mesh.proofs.Places.{all_until, not_all_below}
use Rattle.roll_mesh.specs.declared.limits.TheConstants.{PLAYER_LIMIT}
use Rattle.roll_peer.specs.Judging.{are_its_players, is_its_player}
use Rattle.roll_peer.proofs.judging.are_its_players.Goals as goal

pub returns-then-not-is_its_player : goal.returns-then-not-is_its_player
unfolding are_its_players
returns-then-not-is_its_player c =
    sym (not_all_below (is_its_player c.args.seat.now c.args.packet.now) PLAYER_LIMIT c.loop-player.player (omega arith)
    (sym c.is_its_player.ensures ∙ c.if-not-is_its_player.true))

pub returns : goal.returns
unfolding are_its_players
returns c =
    sym (all_until (is_its_player c.args.seat.now c.args.packet.now) PLAYER_LIMIT c.loop-player.player (omega arith) c.loop-player.invariant)
