use Rattle.std.proofs.Common.{◌∙◌, sym, arith}
use Rattle.roll_mesh.proofs.Places.{all_until, not_all_below}
use Rattle.roll_mesh.specs.declared.limits.TheConstants.{PLAYER_LIMIT}
use Rattle.roll_epoch.specs.Faults.{are_short, is_short_at}
use Rattle.roll_epoch.proofs.faults.are_short.Goals as goal

pub returns-then-not-is_short : goal.returns-then-not-is_short
unfolding are_short
returns-then-not-is_short c =
    sym (not_all_below (is_short_at c.args.delays.now) PLAYER_LIMIT c.loop-player.player (omega arith)
    (sym c.is_short.ensures ∙ c.if-not-is_short.true))

pub returns : goal.returns
unfolding are_short
returns c =
    sym (all_until (is_short_at c.args.delays.now) PLAYER_LIMIT c.loop-player.player (omega arith) c.loop-player.invariant)
