use Rattle.std.proofs.Common.{◌≡◌, ℕ, ◌<◌, true}
use Rattle.roll_mesh.specs.Groups.{is_grouped_at}
use Rattle.roll_mesh.proofs.seat.Seat.are_grouped.Given as goal

abbrev pub invariant-loop-player : goal.invariant-loop-player
invariant-loop-player l = (p : ℕ) → p < l.player → is_grouped_at l.self p ≡ true
