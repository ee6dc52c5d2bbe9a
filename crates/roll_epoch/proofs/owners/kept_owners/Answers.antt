use Rattle.std.proofs.Common.{arith}
use Rattle.std.proofs.lemmas.List.FromFn.{fill_by_all}
use Rattle.roll_mesh.specs.declared.limits.TheConstants.{PLAYER_LIMIT}
use Rattle.roll_epoch.specs.Successions.{each_player, kept_owner}
use Rattle.roll_epoch.proofs.owners.kept_owners.Goals as goal

pub returns : goal.returns
unfolding each_player
returns c = fill_by_all (kept_owner c.args.owners.now c.args.left.now c.args.end) c.loop-player.kept PLAYER_LIMIT 0 (omega (arith, c.loop-player.invariant.0))
    (λ k l. c.loop-player.invariant.1 k (omega arith))
