use Rattle.std.proofs.Common.{◌≡◌, ℕ, ◌<◌, length, get_or, false}
use Rattle.roll_mesh.specs.declared.limits.TheConstants.{PLAYER_LIMIT}
use Rattle.fazgrond_c.specs.EpochKinds.{flag_at}
use Rattle.fazgrond_c.proofs.epoch_kinds.flags_of.Given as goal

abbrev pub invariant-loop-place : goal.invariant-loop-place
invariant-loop-place l =
    (length l.flags ≡ PLAYER_LIMIT)
    × ((k : ℕ) → k < l.place → get_or l.flags k false ≡ flag_at l.numbers k)
