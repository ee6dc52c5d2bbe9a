use Rattle.std.proofs.Common.{◌≡◌, ◌<◌, ℕ, false}
use Rattle.roll_epoch.specs.Successions.{is_free_seat}
use Rattle.roll_epoch.proofs.owners.free_seat.Given as goal

abbrev pub invariant-loop-machine : goal.invariant-loop-machine
invariant-loop-machine l = (m : ℕ) → m < l.machine → is_free_seat l.owners m ≡ false
