use Rattle.std.proofs.Common.{◌≡◌}
use Rattle.roll_session.specs.Standing.{rows_from}
use Rattle.roll_session.proofs.saves.rows_of.Given as goal

abbrev pub invariant-loop-k : goal.invariant-loop-k
invariant-loop-k l = l.rows.items ≡ rows_from l.board.players l.board.settled l.k
