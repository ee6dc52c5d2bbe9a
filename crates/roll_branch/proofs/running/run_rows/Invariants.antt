use Rattle.std.proofs.Common.{◌≡◌, ◌≤◌, length}
use Rattle.std.specs.Prelude.{take, vec_capacity}
use Rattle.roll_frame.specs.Paths.{run}
use Rattle.roll_game.specs.Counts.{rolled}
use Rattle.roll_branch.specs.Routed.{AreWorth}
use Rattle.roll_branch.proofs.running.run_rows.Given as goal

abbrev pub invariant-loop-row : goal.invariant-loop-row
invariant-loop-row g l = record {
  many : length l.states.items ≡ l.row-index;
  room : length l.rows ≤ vec_capacity l.states;
  worth : AreWorth g.G.RawGame.snapshot_value g.G.Game.step (g.G.RawGame.snapshot_value l.from) l.rows l.states.items;
  state : g.G.RawGame.state_value l.state ≡ run g.G.Game.step (g.G.RawGame.snapshot_value l.from) (take l.row-index l.rows);
  counts : g.G.RawGame.call_counts l.game ≡ rolled l.row-index (g.G.RawGame.call_counts l.fn.game);
}
