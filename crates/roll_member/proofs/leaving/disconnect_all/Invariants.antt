use Rattle.roll_member.proofs.Partings.{IsPartly}
use Rattle.roll_member.proofs.leaving.disconnect_all.Given as goal

abbrev pub invariant-loop-place : goal.invariant-loop-place
invariant-loop-place g l = record {
  partly : IsPartly (g.S.Networked.seen l.fn.session) l.mesh.machine l.place (g.S.Networked.seen l.session)
      l.players l.refusal;
  keeps : g.S.Networked.keeps l.fn.session l.session;
}
