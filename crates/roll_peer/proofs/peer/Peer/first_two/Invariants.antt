use Rattle.std.proofs.Common.{◌≡◌, ℕ, ◌<◌, false}
use Rattle.roll_wire.specs.Spelling.{turn}
use Rattle.roll_peer.specs.Disputes.{are_two}
use Rattle.roll_peer.proofs.peer.Peer.first_two.Given as goal

abbrev pub invariant-loop-player : goal.invariant-loop-player
invariant-loop-player l = (p : ℕ) → p < l.player → are_two l.self (turn l.play) p ≡ false
