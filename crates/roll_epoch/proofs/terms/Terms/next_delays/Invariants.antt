use Rattle.std.proofs.Common.{◌≡◌, ◌<◌, ℕ, length, get_or}
use Rattle.roll_mesh.specs.declared.limits.TheConstants.{PLAYER_LIMIT}
use Rattle.roll_epoch.specs.Successions.{next_delay}
use Rattle.roll_epoch.proofs.terms.Terms.next_delays.Given as goal

abbrev pub invariant-loop-player : goal.invariant-loop-player
invariant-loop-player l =
    (length l.delays ≡ PLAYER_LIMIT) × ((k : ℕ) → k < l.player → get_or l.delays k 0 ≡ next_delay l.self l.mark l.kept l.owners k)
