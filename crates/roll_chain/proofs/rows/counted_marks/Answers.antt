use Rattle.std.proofs.Common.{arith}
use Rattle.std.proofs.lemmas.List.FromFn.{fill_by_all}
use Rattle.roll_mesh.specs.declared.limits.TheConstants.{PLAYER_LIMIT}
use Rattle.std.proofs.Common.{None}
use Rattle.roll_chain.specs.Rows.{counted_at}
use Rattle.roll_chain.proofs.rows.counted_marks.Goals as goal

pub returns : goal.returns
returns c =
    fill_by_all (counted_at c.args.peer.now) c.loop-player.marks PLAYER_LIMIT None c.loop-player.invariant.0
    (λ k l. c.loop-player.invariant.1 k (omega (arith, l)))
