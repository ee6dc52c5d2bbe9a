use Rattle.std.proofs.Common.{◌≡◌, ◌<◌, ℕ, true}
use Rattle.fazgrond_c.specs.PeerKinds.{is_within_at}
use Rattle.fazgrond_c.proofs.peer_refusal.are_within.Given as goal

abbrev pub invariant-loop-player : goal.invariant-loop-player
invariant-loop-player l = (k : ℕ) → k < l.player → is_within_at l.seat k ≡ true
