use Rattle.std.proofs.Common.{◌∙◌, sym, arith}
use Rattle.roll_mesh.proofs.Places.{all_until, not_all_below}
use Rattle.roll_mesh.specs.declared.limits.TheConstants.{PLAYER_LIMIT}
use Rattle.roll_epoch.specs.Inputs.{are_alike, is_alike_at}
use Rattle.roll_epoch.proofs.inputs.are_alike.Goals as goal

pub returns-then-not-is_alike_at : goal.returns-then-not-is_alike_at
unfolding are_alike
returns-then-not-is_alike_at c =
    sym (not_all_below (is_alike_at c.args.delays.now c.args.terms.now) PLAYER_LIMIT c.loop-player.player (omega arith)
    (sym c.is_alike_at.ensures ∙ c.if-not-is_alike_at.true))

pub returns : goal.returns
unfolding are_alike
returns c =
    sym (all_until (is_alike_at c.args.delays.now c.args.terms.now) PLAYER_LIMIT c.loop-player.player (omega arith) c.loop-player.invariant)
