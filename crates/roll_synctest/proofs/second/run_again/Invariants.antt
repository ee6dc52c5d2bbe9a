use Rattle.std.proofs.Common.{◌≡◌, ◌<◌}
use Rattle.std.specs.Prelude.{map, IsSomeAnd}
use Rattle.roll_game.specs.Counts.{rolled}
use Rattle.roll_synctest.specs.Runs.{value_before}
use Rattle.roll_synctest.proofs.second.run_again.Given as goal

abbrev pub invariant-loop-place : goal.invariant-loop-place
invariant-loop-place g l = record {
  before : g.R.RawGame.state_value l.state ≡ value_before (g.R.RawGame.snapshot_value l.from) (map g.R.RawGame.snapshot_value l.results) l.place;
  last : 0 < l.place → IsSomeAnd l.last (λ s. g.R.RawGame.snapshot_value s ≡ value_before (g.R.RawGame.snapshot_value l.from) (map g.R.RawGame.snapshot_value l.results) l.place);
  counts : g.R.RawGame.call_counts l.game ≡ rolled l.place (g.R.RawGame.call_counts l.fn.game);
}
