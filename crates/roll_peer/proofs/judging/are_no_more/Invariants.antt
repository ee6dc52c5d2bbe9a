use Rattle.std.proofs.Common.{◌≡◌, ◌<◌, ℕ, true}
use Rattle.roll_peer.specs.Judging.{is_no_more}
use Rattle.roll_peer.proofs.judging.are_no_more.Given as goal

abbrev pub invariant-loop-player : goal.invariant-loop-player
invariant-loop-player l = (k : ℕ) → k < l.player → is_no_more l.seat l.has l.packet k ≡ true
