use Rattle.std.proofs.Common.{◌≤◌, ◌+◌, length, vec_len, vec_capacity}
use Rattle.roll_peer.specs.Requests.{IsDoneTo}
use Rattle.roll_peer.proofs.peer.Peer.run.Given as goal

abbrev pub invariant-loop-request : goal.invariant-loop-request
invariant-loop-request g l = record {
  done : IsDoneTo g.G.Game.step (record { session = l.fn.session; peer = l.fn.self }) (record { session = l.session; peer = l.self }) l.fn.requests.items l.requests.items l.fn.replies.items l.replies.items;
  room : vec_len l.replies + length l.requests.items ≤ vec_capacity l.replies;
}

abbrev pub decreases-loop-request : goal.decreases-loop-request
decreases-loop-request g l = length l.requests.items
