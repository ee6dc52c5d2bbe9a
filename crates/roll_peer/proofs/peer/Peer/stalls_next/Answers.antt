use Rattle.std.proofs.Common.{arith}
use Rattle.roll_mesh.specs.declared.limits.TheConstants.{MACHINE_LIMIT}
use Rattle.roll_peer.specs.Following.{seating_at, stall_next}
use Rattle.roll_peer.specs.Stalls.{first_stall}
use Rattle.roll_peer.specs.Turning.{has_begun}
use Rattle.std.proofs.lemmas.List.FromFn.{fill_by_all}
use Rattle.roll_peer.proofs.peer.Peer.stalls_next.Goals as goal

pub returns : goal.returns
returns c = fill_by_all (λ m. stall_next (seating_at c.args.seating.now m) (has_begun c.args.self.now m)) c.loop-machine.stalls
    MACHINE_LIMIT first_stall c.loop-machine.invariant.0 (λ m l. c.loop-machine.invariant.1 m (omega (arith, l)))
