use Rattle.std.proofs.Common.{arith, false}
use Rattle.std.proofs.lemmas.List.FromFn.{fill_by_all}
use Rattle.roll_mesh.specs.Machines.{is_in}
use Rattle.roll_mesh.specs.declared.limits.TheConstants.{MACHINE_LIMIT}
use Rattle.roll_peer.specs.Following.{is_out, seating_at}
use Rattle.roll_peer.proofs.peer.Peer.known_next.Goals as goal

pub returns : goal.returns
returns c = fill_by_all (λ m. is_out (seating_at c.args.seating.now m) (is_in c.args.self.now.known_gone m)) c.loop-machine.known
    MACHINE_LIMIT false c.loop-machine.invariant.0 (λ m l. c.loop-machine.invariant.1 m (omega (arith, l)))
