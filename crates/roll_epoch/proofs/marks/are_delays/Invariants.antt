use Rattle.std.proofs.Common.{◌≡◌, ◌<◌, ℕ, true}
use Rattle.roll_epoch.specs.Ends.{is_delay_at}
use Rattle.roll_epoch.proofs.marks.are_delays.Given as goal

abbrev pub invariant-loop-player : goal.invariant-loop-player
invariant-loop-player l = (k : ℕ) → k < l.player → is_delay_at l.delays l.giver l.terms k ≡ true
