use Rattle.std.proofs.Common.{◌≡◌, ℕ, ◌<◌, length, get_or, None}
use Rattle.roll_mesh.specs.declared.limits.TheConstants.{PLAYER_LIMIT}
use Rattle.fazgrond_c.specs.EpochKinds.{delay_at}
use Rattle.fazgrond_c.proofs.epoch_kinds.delays_of.Given as goal

abbrev pub invariant-loop-place : goal.invariant-loop-place
invariant-loop-place l =
    (length l.delays ≡ PLAYER_LIMIT)
    × ((k : ℕ) → k < l.place → get_or l.delays k None ≡ delay_at l.numbers k)
