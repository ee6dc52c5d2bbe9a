use Rattle.std.proofs.Common.{◌∙◌, ap, arith, sym}
use Rattle.roll_mesh.proofs.Places.{all_until, not_all_below}
use Rattle.roll_mesh.specs.Meshes.{Seated}
use Rattle.roll_mesh.specs.declared.seat.Seat.{Seat}
use Rattle.roll_peer.specs.Peered.{Peered}
use Rattle.roll_peer.specs.Turning.{is_ready_at}
use Rattle.roll_peer.proofs.peer.Peer.are_ready.Goals as goal

pub returns-then-not-is_ready : goal.returns-then-not-is_ready
returns-then-not-is_ready c =
    let peer : Peered = c.args.self.now in
    let count = ap (λ (seat : Seat). seat.machines) c.seat.ensures
    ∙ ap (λ (mesh : Seated). mesh.seat.machines) c.mesh.ensures
    ∙ ap (λ (p : Peered). p.member.mesh.seat.machines) c.self.view_is in
    sym (not_all_below (is_ready_at peer peer.member.mesh) peer.member.mesh.seat.machines
    c.loop-machine.machine (omega (arith, count, c.loop-machine-test.true))
    (sym c.is_ready.ensures ∙ c.if-not-is_ready.true))

pub returns : goal.returns
returns c =
    let peer : Peered = c.args.self.now in
    let count = ap (λ (seat : Seat). seat.machines) c.seat.ensures
    ∙ ap (λ (mesh : Seated). mesh.seat.machines) c.mesh.ensures
    ∙ ap (λ (p : Peered). p.member.mesh.seat.machines) c.self.view_is in
    sym (all_until (is_ready_at peer peer.member.mesh) peer.member.mesh.seat.machines
    c.loop-machine.machine (omega (arith, count, c.loop-machine-test.false))
    c.loop-machine.invariant)
