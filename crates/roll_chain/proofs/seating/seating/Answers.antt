use Rattle.std.proofs.Common.{arith}
use Rattle.std.proofs.lemmas.List.FromFn.{fill_by_all}
use Rattle.roll_mesh.specs.declared.limits.TheConstants.{MACHINE_LIMIT}
use Rattle.roll_peer.specs.declared.following.Seating.TheVariants.{Empty}
use Rattle.roll_chain.specs.Seams.{seating_at}
use Rattle.roll_chain.proofs.seating.seating.Goals as goal

pub returns : goal.returns
returns c =
    fill_by_all (seating_at c.args.old.now c.args.new.now c.args.end c.args.left.now) c.loop-machine.seating MACHINE_LIMIT Empty c.loop-machine.invariant.0
    (λ k l. c.loop-machine.invariant.1 k (omega (arith, l)))
