use Rattle.std.proofs.Common.{◌≡◌, ◌++◌, ◌+◌, ◌-◌, ◌≤◌}
use Rattle.std.specs.Prelude.{◌*◌}
use Rattle.roll_frame.specs.Timeline.{row_at}
use Rattle.roll_requests.specs.Requests.{runs}
use Rattle.roll_requests.specs.declared.request.Request.TheVariants.{Advance, Save}
use Rattle.roll_requests.proofs.asking.run.Given as goal

abbrev pub invariant-loop-frame : goal.invariant-loop-frame
invariant-loop-frame l = record {
  asked : l.queue.requests ≡ l.fn.queue.requests ++ runs Advance Save (λ k. row_at l.core.saves.inputs.players (l.way.frame + k)) l.slots (l.frame - l.way.frame);
  room : 2 * (l.way.to - l.frame) ≤ l.queue.room;
}
