use Rattle.std.proofs.Common.{◌∙◌, ap, sym}
use Rattle.roll_member.specs.Beside.{Membership}
use Rattle.roll_mesh.specs.Machines.{is_in, leave}
use Rattle.roll_mesh.specs.Meshes.{stepped, Seated}
use Rattle.roll_peer.specs.Following.{begins_without, is_out, seating_at}
use Rattle.roll_peer.proofs.GoneFirst.{gone_next, here_next, may_leave}
use Rattle.roll_peer.proofs.peer.Peer.without_gone.Goals as goal
use Rattle.roll_peer.proofs.peer.Peer.without_gone.Goals.{then-begins_without, else-begins_without}

pub leave-requires : goal.leave-requires
leave-requires c =
    may_leave c.args.settings.now c.loop-machine.member.mesh c.loop-machine.machine
    (is_out (seating_at c.args.seating.now c.loop-machine.machine) (is_in c.args.self.now.member.mesh.machine.gone c.loop-machine.machine))
    c.loop-machine.invariant.2 (sym c.begins_without.ensures ∙ c.if-begins_without.true)

pub loop-machine-preserved : goal.loop-machine-preserved
loop-machine-preserved c =
    let test = begins_without c.args.self.now c.args.settings.now c.args.seating.now in
    let n = c.loop-machine.machine in
    elim c.if-begins_without.branch [
      | then-begins_without w ↦ (
        ap (λ (m : Membership). m.mesh) w.member-is ∙ w.leave.ensures.mesh
            ∙ ap (λ (m : Seated). stepped (λ seat here. leave seat n here) m) c.loop-machine.invariant.0
            ∙ sym (gone_next test n c.args.member.mesh (sym c.begins_without.ensures ∙ w.if-begins_without.true)),
        ap (λ (m : Membership). m.limits) w.member-is ∙ w.leave.ensures.limits ∙ c.loop-machine.invariant.1,
        ap (λ (m : Membership). m.mesh.seat) w.member-is ∙ ap (λ (m : Seated). m.seat) w.leave.ensures.mesh
            ∙ c.loop-machine.invariant.2,
      )
      | else-begins_without w ↦ (
        ap (λ (m : Membership). m.mesh) w.member-is ∙ c.loop-machine.invariant.0
            ∙ sym (here_next test n c.args.member.mesh (sym c.begins_without.ensures ∙ w.if-begins_without.false)),
        ap (λ (m : Membership). m.limits) w.member-is ∙ c.loop-machine.invariant.1,
        ap (λ (m : Membership). m.mesh.seat) w.member-is ∙ c.loop-machine.invariant.2,
      )
    ]
