use Rattle.std.proofs.Common.{◌≡◌, ◌<◌, ℕ, true}
use Rattle.roll_peer.specs.Settings.{has_number_for}
use Rattle.roll_peer.proofs.settings.MatchSettings.has_numbers.Given as goal

abbrev pub invariant-loop-machine : goal.invariant-loop-machine
invariant-loop-machine l = (k : ℕ) → k < l.machine → has_number_for l.self k ≡ true
