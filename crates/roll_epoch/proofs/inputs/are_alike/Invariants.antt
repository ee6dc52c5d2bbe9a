use Rattle.std.proofs.Common.{◌≡◌, ◌<◌, ℕ, true}
use Rattle.roll_epoch.specs.Inputs.{is_alike_at}
use Rattle.roll_epoch.proofs.inputs.are_alike.Given as goal

abbrev pub invariant-loop-player : goal.invariant-loop-player
invariant-loop-player l = (k : ℕ) → k < l.player → is_alike_at l.delays l.terms k ≡ true
