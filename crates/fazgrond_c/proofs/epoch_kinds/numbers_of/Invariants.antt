use Rattle.std.proofs.Common.{◌≡◌, ℕ, ◌<◌, length, get_or}
use Rattle.roll_mesh.specs.declared.limits.TheConstants.{PLAYER_LIMIT}
use Rattle.std.specs.Prelude.{slice_index}
use Rattle.fazgrond_c.proofs.epoch_kinds.numbers_of.Given as goal

abbrev pub invariant-loop-place : goal.invariant-loop-place
invariant-loop-place l =
    (length l.numbers ≡ PLAYER_LIMIT)
    × ((k : ℕ) → k < l.place → get_or l.numbers k 0 ≡ slice_index l.bytes k)
