use Rattle.std.proofs.Common.{◌∙◌, subst, sym}
use Rattle.roll_mesh.specs.Meshes.{Seated}
use Rattle.roll_member.specs.Joined.{IsTied}
use Rattle.roll_member.proofs.Beside.{near_tied, tied_steady}
use Rattle.roll_member.proofs.member.Member.meet.Goals as goal

pub invariant_of-self : goal.invariant_of-self
invariant_of-self g c =
    let s = g.S.Networked.seen c.args.session.now in
    tied_steady s c.catch_up.new.mesh
    (subst (λ (m : Seated). IsTied s m) (sym c.catch_up.ensures)
    (near_tied s c.self.inside.mesh c.self.invariant
    (sym c.is_near.ensures ∙ c.if-not-is_near.false)))

pub returns-clause-tied : goal.returns-clause-tied
returns-clause-tied g c met =
    let s = g.S.Networked.seen c.args.session.now in
    subst (λ (m : Seated). IsTied s m) (sym c.catch_up.ensures)
    (near_tied s c.self.inside.mesh c.self.invariant
    (sym c.is_near.ensures ∙ c.if-not-is_near.false))
