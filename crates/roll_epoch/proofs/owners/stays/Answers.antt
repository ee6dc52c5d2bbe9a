use Rattle.std.proofs.Common.{◌∙◌, sym, arith}
use Rattle.roll_mesh.proofs.Places.{all_until, not_all_below}
use Rattle.roll_mesh.specs.declared.limits.TheConstants.{PLAYER_LIMIT}
use Rattle.roll_epoch.specs.Successions.{stays, is_no_loss_at}
use Rattle.roll_epoch.proofs.owners.stays.Goals as goal

pub returns-then-not-is_no_loss : goal.returns-then-not-is_no_loss
unfolding stays
returns-then-not-is_no_loss c =
    sym (not_all_below (is_no_loss_at c.args.owners.now c.args.left.now c.args.end c.args.machine) PLAYER_LIMIT c.loop-player.player (omega arith)
    (sym c.is_no_loss.ensures ∙ c.if-not-is_no_loss.true))

pub returns : goal.returns
unfolding stays
returns c =
    sym (all_until (is_no_loss_at c.args.owners.now c.args.left.now c.args.end c.args.machine) PLAYER_LIMIT c.loop-player.player (omega arith) c.loop-player.invariant)
