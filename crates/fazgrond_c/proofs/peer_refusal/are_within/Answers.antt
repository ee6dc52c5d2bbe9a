use Rattle.std.proofs.Common.{◌∙◌, sym, arith}
use Rattle.roll_chain.proofs.Ranges.{each_next}
use Rattle.roll_mesh.proofs.Places.{all_until, not_all_below}
use Rattle.roll_mesh.specs.declared.limits.TheConstants.{PLAYER_LIMIT}
use Rattle.fazgrond_c.specs.PeerKinds.{is_within_at}
use Rattle.fazgrond_c.proofs.peer_refusal.are_within.Goals as goal

pub loop-player-preserved : goal.loop-player-preserved
loop-player-preserved c =
    each_next (is_within_at c.args.seat.now) c.loop-player.player c.loop-player.invariant
    (sym c.is_within_at.ensures ∙ c.if-not-is_within_at.false)

pub returns-then-not-is_within_at : goal.returns-then-not-is_within_at
returns-then-not-is_within_at c =
    sym (not_all_below (is_within_at c.args.seat.now) PLAYER_LIMIT c.loop-player.player (omega arith)
    (sym c.is_within_at.ensures ∙ c.if-not-is_within_at.true))

pub returns : goal.returns
returns c =
    sym (all_until (is_within_at c.args.seat.now) PLAYER_LIMIT c.loop-player.player (omega arith) c.loop-player.invariant)
