use Rattle.std.proofs.Common.{arith}
use Rattle.std.proofs.lemmas.List.FromFn.{fill_by_all}
use Rattle.roll_mesh.specs.declared.limits.TheConstants.{MACHINE_LIMIT}
use Rattle.std.proofs.Common.{false}
use Rattle.roll_peer.specs.Following.{seating_at as sits_at}
use Rattle.roll_chain.specs.Seams.{is_staying}
use Rattle.roll_chain.proofs.seating.stay_where.Goals as goal

pub returns : goal.returns
returns c =
    fill_by_all (λ m. is_staying (sits_at c.args.seating.now m)) c.loop-machine.stays MACHINE_LIMIT false c.loop-machine.invariant.0
    (λ k l. c.loop-machine.invariant.1 k (omega (arith, l)))
