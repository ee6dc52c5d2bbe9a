use Rattle.std.proofs.Common.{◌∙◌, ap, subst, sym}
use Rattle.roll_mesh.specs.Meshes.{Seated}
use Rattle.roll_member.specs.Beside.{Membership}
use Rattle.roll_member.specs.Joined.{held, IsTied}
use Rattle.roll_member.specs.Leaving.{DisconnectsAll}
use Rattle.roll_member.proofs.Beside.{tied_steady}
use Rattle.roll_member.proofs.Tied.{leaves_tied, left_held}
use Rattle.roll_member.proofs.member.Member.let_leave.Goals as goal

pub invariant_of-self : goal.invariant_of-self
invariant_of-self g c =
    let s = g.S.Networked.seen c.args.session.now in
    let new = g.S.Networked.seen c.disconnect_all.new.session in
    let mesh = c.self.inside.mesh in
    let who = c.disconnect_all.result in
    let d = subst (λ (m : Seated). DisconnectsAll s m.machine new who) c.let_leave.ensures
    c.disconnect_all.ensures.left in
    let tied = subst (λ (m : Membership). IsTied s m.mesh) (sym c.self.view_is) c.requires in
    tied_steady new c.let_leave.new.self
    (subst (λ (m : Seated). IsTied new m) (sym c.let_leave.ensures) (leaves_tied s new mesh who tied d))

pub returns-clause-tied : goal.returns-clause-tied
returns-clause-tied g c =
    let s = g.S.Networked.seen c.args.session.now in
    let new = g.S.Networked.seen c.disconnect_all.new.session in
    let mesh = c.self.inside.mesh in
    let who = c.disconnect_all.result in
    let d = subst (λ (m : Seated). DisconnectsAll s m.machine new who) c.let_leave.ensures
    c.disconnect_all.ensures.left in
    let tied = subst (λ (m : Membership). IsTied s m.mesh) (sym c.self.view_is) c.requires in
    subst (λ (m : Seated). IsTied new m) (sym c.let_leave.ensures) (leaves_tied s new mesh who tied d)

pub returns-clause-words : goal.returns-clause-words
returns-clause-words g c =
    let s = g.S.Networked.seen c.args.session.now in
    let new = g.S.Networked.seen c.disconnect_all.new.session in
    let mesh = c.self.inside.mesh in
    let who = c.disconnect_all.result in
    let d = subst (λ (m : Seated). DisconnectsAll s m.machine new who) c.let_leave.ensures
    c.disconnect_all.ensures.left in
    rw (← c.self.view_is)
    (ap (λ (m : Seated). held (record { session = new; mesh = m })) c.let_leave.ensures
    ∙ left_held s new mesh who d)
