use Rattle.std.proofs.Common.{◌≡◌, ℕ, ◌<◌, length, get_or}
use Rattle.std.specs.Prelude.{max, slice_index}
use Rattle.roll_mesh.specs.declared.limits.TheConstants.{PLAYER_LIMIT}
use Rattle.roll_member.specs.Taking.{are_full, counted_to}
use Rattle.roll_member.proofs.words.up_to.Given as goal

abbrev pub invariant-loop-place : goal.invariant-loop-place
invariant-loop-place l =
    (length l.counts ≡ PLAYER_LIMIT)
    × ((p : ℕ) → p < l.place → get_or l.counts p 0
    ≡ max (slice_index l.mesh.machine.has p)
    (counted_to l.mesh.seat l.mesh.machine.gone (are_full l.mesh.seat l.mesh.machine l.end l.most) l.end l.most p))
