use Rattle.std.proofs.Common.{arith, None}
use Rattle.roll_mesh.specs.declared.limits.TheConstants.{MACHINE_LIMIT}
use Rattle.roll_peer.specs.Following.{dispute_next, seating_at}
use Rattle.roll_peer.specs.Disputes.{dispute_at}
use Rattle.std.proofs.lemmas.List.FromFn.{fill_by_all}
use Rattle.roll_peer.proofs.peer.Peer.disputes_next.Goals as goal

pub returns : goal.returns
returns c = fill_by_all (λ m. dispute_next (seating_at c.args.seating.now m) (dispute_at c.args.self.now m)) c.loop-machine.disputes
    MACHINE_LIMIT None c.loop-machine.invariant.0 (λ m l. c.loop-machine.invariant.1 m (omega (arith, l)))
