use Rattle.std.proofs.Common.{◌≡◌, ◌<◌, ℕ, get_or, length}
use Rattle.std.specs.Option.{option_map_or}
use Rattle.std.specs.Prelude.{slice_get}
use Rattle.roll_frame.specs.Core.{settled}
use Rattle.roll_viewer.specs.Telling.{has_of}
use Rattle.roll_mesh.specs.declared.limits.TheConstants.{PLAYER_LIMIT}
use Rattle.roll_viewer.proofs.telling.counts.Given as goal

abbrev pub invariant-loop-place : goal.invariant-loop-place
invariant-loop-place g l = record {
  all : length l.counts ≡ PLAYER_LIMIT;
  so_far : (k : ℕ) → k < l.place
      → get_or l.counts k 0
      ≡ option_map_or (has_of (settled (g.S.Networked.seen l.session).core))
      (slice_get (g.S.Networked.seen l.session).core.players k) 0;
}
