use Rattle.std.proofs.Common.{◌≡◌}
use Rattle.roll_frame.specs.Inputs.{changed, with_words}
use Rattle.roll_session.specs.Standing.{rows_from}
use Rattle.roll_session.proofs.guess.guessed_rows.Given as goal

abbrev pub invariant-loop-k : goal.invariant-loop-k
invariant-loop-k l = l.rows.items ≡ rows_from (changed (with_words l.words) l.board.players l.player) l.board.settled l.k
