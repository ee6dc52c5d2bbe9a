use Rattle.std.proofs.Common.{◌≡◌, ◌<◌, ℕ, true}
use Rattle.roll_epoch.specs.Successions.{is_no_loss_at}
use Rattle.roll_epoch.proofs.owners.stays.Given as goal

abbrev pub invariant-loop-player : goal.invariant-loop-player
invariant-loop-player l = (k : ℕ) → k < l.player → is_no_loss_at l.owners l.left l.end l.machine k ≡ true
