use Rattle.std.proofs.Common.{◌≡◌, ℕ, ◌<◌}
use Rattle.std.specs.Prelude.{slice_get}
use Rattle.prog_observer.proofs.change.first_player.Given as goal

abbrev pub invariant-loop-place : goal.invariant-loop-place
invariant-loop-place l = record { same : (j : ℕ) → j < l.place → slice_get l.row j ≡ slice_get l.other j }
