use Rattle.std.proofs.Common.{arith}
use Rattle.std.proofs.lemmas.List.FromFn.{fill_by_all}
use Rattle.roll_mesh.specs.declared.limits.TheConstants.{PLAYER_LIMIT}
use Rattle.std.proofs.Common.{None}
use Rattle.roll_chain.specs.Rows.{left_in}
use Rattle.roll_chain.proofs.rows.lefts.Goals as goal

pub returns : goal.returns
returns c =
    fill_by_all (left_in c.args.mesh.now) c.loop-player.lefts PLAYER_LIMIT None c.loop-player.invariant.0
    (λ k l. c.loop-player.invariant.1 k (omega (arith, l)))
