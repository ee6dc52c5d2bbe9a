use Rattle.std.proofs.Common.{◌∙◌, sym, arith}
use Rattle.roll_mesh.proofs.Places.{all_until, not_all_below}
use Rattle.roll_mesh.specs.declared.limits.TheConstants.{PLAYER_LIMIT}
use Rattle.roll_epoch.specs.Ends.{are_delays, is_delay_at}
use Rattle.roll_epoch.proofs.marks.are_delays.Goals as goal

pub returns-then-not-is_delay : goal.returns-then-not-is_delay
unfolding are_delays
returns-then-not-is_delay c =
    sym (not_all_below (is_delay_at c.args.delays.now c.args.giver c.args.terms.now) PLAYER_LIMIT c.loop-player.player (omega arith)
    (sym c.is_delay.ensures ∙ c.if-not-is_delay.true))

pub returns : goal.returns
unfolding are_delays
returns c =
    sym (all_until (is_delay_at c.args.delays.now c.args.giver c.args.terms.now) PLAYER_LIMIT c.loop-player.player (omega arith) c.loop-player.invariant)
