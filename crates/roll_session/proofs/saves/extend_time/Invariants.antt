use Rattle.std.proofs.Common.{◌≡◌, ◌+◌, length}
use Rattle.roll_session.specs.Standing.{rows_from}
use Rattle.roll_session.proofs.saves.extend_time.Given as goal

abbrev pub invariant-loop-frame : goal.invariant-loop-frame
invariant-loop-frame g l = record {
  same : l.tree ≡ record l.fn.tree { time = l.tree.time };
  told : l.tree.time ≡ rows_from l.board.players l.board.settled (length l.tree.time);
  at : l.frame ≡ l.board.settled + length l.tree.time;
}
