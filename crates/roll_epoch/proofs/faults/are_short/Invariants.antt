use Rattle.std.proofs.Common.{◌≡◌, ◌<◌, ℕ, true}
use Rattle.roll_epoch.specs.Faults.{is_short_at}
use Rattle.roll_epoch.proofs.faults.are_short.Given as goal

abbrev pub invariant-loop-player : goal.invariant-loop-player
invariant-loop-player l = (k : ℕ) → k < l.player → is_short_at l.delays k ≡ true
