use Rattle.std.proofs.Common.{◌≡◌, ◌<◌, ℕ, true}
use Rattle.roll_mesh.specs.HoldingUp.{is_clear}
use Rattle.roll_mesh.proofs.holding_up.are_clear.Given as goal

abbrev pub invariant-loop-player : goal.invariant-loop-player
invariant-loop-player l =
    (p : ℕ) → p < l.player → is_clear l.seat l.here l.threshold l.machine l.own l.view.has p ≡ true
