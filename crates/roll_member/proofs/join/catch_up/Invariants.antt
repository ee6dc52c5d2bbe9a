use Rattle.std.proofs.Common.{◌≡◌}
use Rattle.roll_member.proofs.Beside.{IsCaughtUp}
use Rattle.roll_member.proofs.join.catch_up.Given as goal

abbrev pub invariant-loop-place : goal.invariant-loop-place
invariant-loop-place g l = record {
  rest : l.mesh ≡ record l.fn.mesh {
    machine = record l.fn.mesh.machine { has = l.mesh.machine.has };
  };
  caught : IsCaughtUp (g.S.Networked.seen l.session) l.fn.mesh.seat l.fn.mesh.machine.has l.mesh.machine.has l.place;
}
