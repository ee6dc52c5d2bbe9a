use Rattle.std.proofs.Common.{◌≡◌, ◌++◌, ◌∷◌, ◌-◌, ◌≤◌, [], length, get_or}
use Rattle.std.specs.Prelude.{◌*◌}
use Rattle.roll_requests.specs.Requests.{runs}
use Rattle.roll_requests.specs.declared.request.Request.TheVariants.{AdvanceAside, LoadAside, SaveAside}
use Rattle.roll_requests.proofs.asking.ask_job.Given as goal

abbrev pub invariant-loop-place : goal.invariant-loop-place
invariant-loop-place l = record {
  asked : l.queue.requests ≡ l.fn.queue.requests ++ LoadAside l.slot ∷ runs AdvanceAside SaveAside (λ k. get_or l.rows k []) l.slots l.place;
  room : 2 * (length l.slots - l.place) ≤ l.queue.room;
}
