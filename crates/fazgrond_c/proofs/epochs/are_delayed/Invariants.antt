use Rattle.std.proofs.Common.{◌≡◌, ◌<◌, ℕ, true}
use Rattle.fazgrond_c.specs.Lasting.{is_delayed}
use Rattle.fazgrond_c.proofs.epochs.are_delayed.Given as goal

abbrev pub invariant-loop-player : goal.invariant-loop-player
invariant-loop-player l = (k : ℕ) → k < l.player → is_delayed l.terms l.settings l.me k ≡ true
