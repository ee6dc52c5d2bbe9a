use Rattle.std.proofs.Common.{◌≡◌, ◌<◌, ℕ, true}
use Rattle.roll_mesh.specs.HoldingUp.{keeps_open}
use Rattle.roll_mesh.proofs.holding_up.could_give.Given as goal

abbrev pub invariant-loop-player : goal.invariant-loop-player
invariant-loop-player l =
    (p : ℕ) → p < l.player → keeps_open l.seat l.here l.threshold l.own l.view.has p ≡ true
