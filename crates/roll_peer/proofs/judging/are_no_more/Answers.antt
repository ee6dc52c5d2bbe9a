use Rattle.std.proofs.Common.{◌∙◌, sym, arith}
use Rattle.roll_mesh.proofs.Places.{all_until, not_all_below}
use Rattle.roll_mesh.specs.declared.limits.TheConstants.{PLAYER_LIMIT}
use Rattle.roll_peer.specs.Judging.{are_no_more, is_no_more}
use Rattle.roll_peer.proofs.judging.are_no_more.Goals as goal

pub returns-then-not-is_no_more : goal.returns-then-not-is_no_more
unfolding are_no_more
returns-then-not-is_no_more c =
    sym (not_all_below (is_no_more c.args.seat.now c.args.has.now c.args.packet.now) PLAYER_LIMIT c.loop-player.player (omega arith)
    (sym c.is_no_more.ensures ∙ c.if-not-is_no_more.true))

pub returns : goal.returns
unfolding are_no_more
returns c =
    sym (all_until (is_no_more c.args.seat.now c.args.has.now c.args.packet.now) PLAYER_LIMIT c.loop-player.player (omega arith) c.loop-player.invariant)
