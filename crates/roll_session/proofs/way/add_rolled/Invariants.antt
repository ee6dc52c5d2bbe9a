use Rattle.std.proofs.Common.{◌≡◌, ◌-◌}
use Rattle.roll_session.specs.Gameless.{KeepsRolled}
use Rattle.roll_session.specs.Ways.{IsGoing}
use Rattle.roll_session.proofs.Ways.{IsLonger}
use Rattle.roll_session.proofs.way.add_rolled.Given as goal

abbrev pub invariant-loop-frame : goal.invariant-loop-frame
invariant-loop-frame g l = record {
  longer : IsLonger l.fn.saves l.saves l.fn.start.frame l.fn.start.to l.frame;
  going : IsGoing l.saves l.way;
  frame : l.way.frame ≡ l.frame;
  to : l.way.to ≡ l.fn.start.to;
  kept : KeepsRolled l.fn.saves l.saves l.fn.start.frame l.states (l.frame - l.fn.start.frame);
}
