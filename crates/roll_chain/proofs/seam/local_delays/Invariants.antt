use Rattle.std.proofs.Common.{◌≡◌, ℕ, ◌<◌, length, get_or}
use Rattle.roll_mesh.specs.declared.limits.TheConstants.{PLAYER_LIMIT}
use Rattle.roll_chain.specs.Seams.{local_delay}
use Rattle.roll_chain.proofs.seam.local_delays.Given as goal

abbrev pub invariant-loop-player : goal.invariant-loop-player
invariant-loop-player l =
    (length l.delays ≡ PLAYER_LIMIT) × ((k : ℕ) → k < l.player → get_or l.delays k 0 ≡ local_delay l.terms l.me k)
