use Rattle.std.proofs.Common.{◌∙◌, subst, sym, ap}
use Rattle.roll_mesh.specs.Meshes.{Seated}
use Rattle.roll_mesh.specs.Worlds.{first_machine}
use Rattle.roll_member.specs.Joined.{AreCounts, IsTied}
use Rattle.roll_member.proofs.Beside.{tied_steady}
use Rattle.roll_member.proofs.Tied.{joined_tied, seated_fine}
use Rattle.roll_member.proofs.member.Member.join.Goals as goal

pub invariant_of-result : goal.invariant_of-result
invariant_of-result g c =
    let s = g.S.Networked.seen c.args.session.now in
    let fine = seated_fine s c.args.seat (sym c.join_refusal.ensures ∙ c.in_default.is) in
    let has = c.give_all.new.mesh.machine.has in
    let is = c.give_all.ensures.has ∙ ap (λ (m : Seated). record m { machine = record first_machine { has = has } })
    c.in-Ok.ensures.seated in
    tied_steady s c.give_all.new.mesh (subst (λ (m : Seated). IsTied s m) (sym is)
    (joined_tied s c.args.seat has fine.2 fine.0 fine.1 c.give_all.ensures.all
    (subst (λ (m : Seated). AreCounts s m.seat has) c.in-Ok.ensures.seated c.give_all.ensures.counts)))

pub returns-clause-tied : goal.returns-clause-tied
returns-clause-tied g c =
    let s = g.S.Networked.seen c.args.session.now in
    let fine = seated_fine s c.args.seat (sym c.join_refusal.ensures ∙ c.in_default.is) in
    let has = c.give_all.new.mesh.machine.has in
    let is = c.give_all.ensures.has ∙ ap (λ (m : Seated). record m { machine = record first_machine { has = has } })
    c.in-Ok.ensures.seated in
    subst (λ (m : Seated). IsTied s m) (sym is)
    (joined_tied s c.args.seat has fine.2 fine.0 fine.1 c.give_all.ensures.all
    (subst (λ (m : Seated). AreCounts s m.seat has) c.in-Ok.ensures.seated c.give_all.ensures.counts))
