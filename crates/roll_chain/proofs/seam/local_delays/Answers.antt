use Rattle.std.proofs.Common.{arith}
use Rattle.std.proofs.lemmas.List.FromFn.{fill_by_all}
use Rattle.roll_mesh.specs.declared.limits.TheConstants.{PLAYER_LIMIT}
use Rattle.roll_chain.specs.Seams.{local_delay}
use Rattle.roll_chain.proofs.seam.local_delays.Goals as goal

pub returns : goal.returns
returns c =
    fill_by_all (local_delay c.args.terms.now c.args.me) c.loop-player.delays PLAYER_LIMIT 0 c.loop-player.invariant.0
    (λ k l. c.loop-player.invariant.1 k (omega (arith, l)))
