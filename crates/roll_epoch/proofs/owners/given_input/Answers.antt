use Rattle.std.proofs.Common.{arith}
use Rattle.std.proofs.lemmas.List.FromFn.{fill_by_all}
use Rattle.roll_mesh.specs.declared.limits.TheConstants.{PLAYER_LIMIT}
use Rattle.roll_epoch.specs.Successions.{each_player, owner_with}
use Rattle.roll_epoch.proofs.owners.given_input.Goals as goal

pub returns : goal.returns
unfolding each_player
returns c = fill_by_all (owner_with c.args.seat c.args.words c.args.owners.now c.args.place) c.loop-player.others PLAYER_LIMIT 0 (omega (arith, c.loop-player.invariant.0))
    (λ k l. c.loop-player.invariant.1 k (omega arith))
