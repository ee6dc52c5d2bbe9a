use Rattle.std.proofs.Common.{◌≡◌, ◌++◌, ◌+◌, ◌≤◌}
use Rattle.roll_requests.specs.Requests.{frees}
use Rattle.roll_requests.specs.Slotted.{is_taken}
use Rattle.roll_requests.proofs.asking.free_all.Given as goal

abbrev pub invariant-loop-place : goal.invariant-loop-place
invariant-loop-place l = record {
  asked : l.queue.requests ≡ l.fn.queue.requests ++ frees (is_taken l.taken) l.place;
  room : l.fn.queue.room ≤ l.queue.room + l.place;
}
