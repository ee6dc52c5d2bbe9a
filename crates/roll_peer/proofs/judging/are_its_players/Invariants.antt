use Rattle.std.proofs.Common.{◌≡◌, ◌<◌, ℕ, true}
use Rattle.roll_peer.specs.Judging.{is_its_player}
use Rattle.roll_peer.proofs.judging.are_its_players.Given as goal

abbrev pub invariant-loop-player : goal.invariant-loop-player
invariant-loop-player l = (k : ℕ) → k < l.player → is_its_player l.seat l.packet k ≡ true
