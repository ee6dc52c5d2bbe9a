use Rattle.std.proofs.Common.{◌≡◌, ◌-◌}
use Rattle.roll_game.specs.Counts.{rolled}
use Rattle.roll_session.specs.Ways.{IsGoing}
use Rattle.roll_session.proofs.Ways.{IsGrown}
use Rattle.roll_session.proofs.roll.run_on.Given as goal

abbrev pub invariant-loop-frame : goal.invariant-loop-frame
invariant-loop-frame g l = record {
  grown : IsGrown g.G.RawGame.snapshot_value g.G.Game.step l.fn.saves l.saves l.fn.start.frame l.fn.start.to l.frame (g.G.RawGame.state_value l.state);
  going : IsGoing l.saves l.way;
  frame : l.way.frame ≡ l.frame;
  to : l.way.to ≡ l.fn.start.to;
  counts : g.G.RawGame.call_counts l.game ≡ rolled (l.frame - l.fn.start.frame) (g.G.RawGame.call_counts l.fn.game);
}
