use Rattle.std.proofs.Common.{◌≡◌}
use Rattle.roll_inputs.specs.Foretold.{foretold}
use Rattle.roll_session.specs.Standing.{rows_from}
use Rattle.roll_session.proofs.guess.foretold_rows.Given as goal

abbrev pub invariant-loop-k : goal.invariant-loop-k
invariant-loop-k l = l.rows.items ≡ rows_from (foretold l.board.players l.words) l.board.settled l.k
