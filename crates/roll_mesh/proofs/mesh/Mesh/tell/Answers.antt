use Rattle.std.proofs.Common.{◌≡◌, ◌∙◌, ap, subst, true}
use Rattle.roll_mesh.specs.Groups.{is_even, AreEven}
use Rattle.roll_mesh.specs.Meshes.{is_had, Seated}
use Rattle.roll_mesh.proofs.Groups.{told_even}
use Rattle.roll_mesh.proofs.Told.{told_had}
use Rattle.roll_mesh.proofs.mesh.Mesh.tell.Goals as goal

pub returns-clause-had : goal.returns-clause-had
returns-clause-had c = ap is_had c.tell.ensures
    ∙ told_had c.self.inside.seat c.args.machine c.args.room.now c.self.inside.machine

pub returns-clause-even : goal.returns-clause-even
returns-clause-even c =
    subst (λ (m : Seated). AreEven m.seat m.machine c.args.room.now
    → is_even m.seat c.tell.result ≡ true) c.self.view_is
    (λ even. ap (is_even c.self.inside.seat) c.tell.ensures
    ∙ told_even c.self.inside.seat c.args.machine c.args.room.now c.self.inside.machine
    c.self.invariant.grouped even)
