use Rattle.std.proofs.Common.{arith}
use Rattle.std.proofs.lemmas.List.FromFn.{fill_by_all}
use Rattle.roll_mesh.specs.declared.limits.TheConstants.{PLAYER_LIMIT}
use Rattle.roll_epoch.specs.Successions.{each_player, next_delay}
use Rattle.roll_epoch.proofs.terms.Terms.next_delays.Goals as goal

pub returns : goal.returns
unfolding each_player
returns c = fill_by_all (next_delay c.args.self.now c.args.mark.now c.args.kept.now c.args.owners.now) c.loop-player.delays PLAYER_LIMIT 0 (omega (arith, c.loop-player.invariant.0))
    (λ k l. c.loop-player.invariant.1 k (omega arith))
