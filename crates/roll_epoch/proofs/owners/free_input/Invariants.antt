use Rattle.std.proofs.Common.{◌≡◌, ◌<◌, ℕ, false}
use Rattle.roll_epoch.specs.Successions.{is_free_input}
use Rattle.roll_epoch.proofs.owners.free_input.Given as goal

abbrev pub invariant-loop-player : goal.invariant-loop-player
invariant-loop-player l = (m : ℕ) → m < l.player → is_free_input l.words l.owners m ≡ false
