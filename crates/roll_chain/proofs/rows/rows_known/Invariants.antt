use Rattle.std.proofs.Common.{◌≡◌}
use Rattle.roll_chain.specs.Rows.{rows_until}
use Rattle.roll_chain.proofs.rows.rows_known.Given as goal

abbrev pub invariant-loop-player : goal.invariant-loop-player
invariant-loop-player l = l.rows ≡ rows_until l.mesh l.player
