use Rattle.std.proofs.Common.{◌≡◌}
use Rattle.roll_peer.specs.Notices.{player_left, told_of}
use Rattle.roll_peer.proofs.event.Events.left.Given as goal

abbrev pub invariant-loop-place : goal.invariant-loop-place
invariant-loop-place l = l.self ≡ told_of (player_left l.left.players) l.place l.fn.self
