use Rattle.std.proofs.Common.{◌≡◌, ◌<◌, ℕ, get_or, length}
use Rattle.std.specs.Option.{option_map_or}
use Rattle.std.specs.Prelude.{slice_get}
use Rattle.roll_frame.specs.Core.{settled}
use Rattle.roll_mesh.specs.Machines.{none_offered}
use Rattle.roll_viewer.specs.Telling.{span_of}
use Rattle.roll_mesh.specs.declared.limits.TheConstants.{PLAYER_LIMIT}
use Rattle.roll_viewer.proofs.telling.spans_to.Given as goal

abbrev pub invariant-loop-place : goal.invariant-loop-place
invariant-loop-place g l = record {
  all : length l.spans ≡ PLAYER_LIMIT;
  so_far : (k : ℕ) → k < l.place
      → get_or l.spans k none_offered
      ≡ option_map_or (span_of (settled (g.S.Networked.seen l.session).core) l.had l.room)
      (slice_get (g.S.Networked.seen l.session).core.players k) none_offered;
}
