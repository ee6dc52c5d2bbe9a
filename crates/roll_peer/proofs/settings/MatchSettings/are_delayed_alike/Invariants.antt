use Rattle.std.proofs.Common.{◌≡◌, ◌<◌, ℕ, true}
use Rattle.roll_peer.specs.Settings.{is_delayed_alike}
use Rattle.roll_peer.proofs.settings.MatchSettings.are_delayed_alike.Given as goal

abbrev pub invariant-loop-player : goal.invariant-loop-player
invariant-loop-player l = (k : ℕ) → k < l.player → is_delayed_alike l.session l.self k ≡ true
