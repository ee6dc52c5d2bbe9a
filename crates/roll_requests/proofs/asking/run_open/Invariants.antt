use Rattle.std.proofs.Common.{◌≡◌, ◌++◌, ◌+◌, ◌-◌, ◌≤◌}
use Rattle.roll_frame.specs.Core.{settled}
use Rattle.roll_requests.specs.Ended.{open_row}
use Rattle.roll_requests.specs.Requests.{advances}
use Rattle.roll_requests.proofs.asking.run_open.Given as goal

abbrev pub invariant-loop-frame : goal.invariant-loop-frame
invariant-loop-frame l = record {
  asked : l.queue.requests ≡ l.fn.queue.requests ++ advances (open_row l.core.seen.core) (l.frame - settled l.core.seen.core);
  within : l.frame - settled l.core.seen.core ≤ l.end - settled l.core.seen.core;
  room : l.fn.queue.room ≤ l.queue.room + (l.frame - settled l.core.seen.core);
}
