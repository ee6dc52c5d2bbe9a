use Rattle.std.proofs.Common.{◌≡◌, ◌<◌, ℕ, true}
use Rattle.roll_epoch.specs.Inputs.{is_even_at}
use Rattle.roll_epoch.proofs.terms.Terms.are_even.Given as goal

abbrev pub invariant-loop-player : goal.invariant-loop-player
invariant-loop-player l = (k : ℕ) → k < l.player → is_even_at l.self k ≡ true
