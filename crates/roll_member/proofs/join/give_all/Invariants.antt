use Rattle.std.proofs.Common.{◌≡◌}
use Rattle.roll_mesh.specs.Worlds.{first_machine}
use Rattle.roll_member.proofs.Joining.{IsGivenTo}
use Rattle.roll_member.proofs.join.give_all.Given as goal

abbrev pub invariant-loop-place : goal.invariant-loop-place
invariant-loop-place g l = record {
  has : l.mesh ≡ record l.fn.mesh {
    machine = record first_machine { has = l.mesh.machine.has };
  };
  given : IsGivenTo (g.S.Networked.seen l.session) l.fn.mesh.seat l.mesh.machine.has l.place;
}
