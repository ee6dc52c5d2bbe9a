use Rattle.std.proofs.Common.{◌≡◌, ◌≤◌, ◌+◌, length, drop, vec_len, vec_capacity}
use Rattle.std.specs.Prelude.{fold, All}
use Rattle.roll_host.specs.Hosted.{places_of, rings_of}
use Rattle.roll_host.specs.Requests.{rings_after, EndsOwn, IsDoneTo}
use Rattle.roll_host.proofs.host.Host.run.Given as goal

abbrev pub invariant-loop-request : goal.invariant-loop-request
invariant-loop-request g l = record {
  done : IsDoneTo g.G.Game.step l.fn.self l.self l.fn.requests.items l.requests.items l.fn.replies.items l.replies.items;
  rings : rings_of l.self.links ≡ fold rings_after (rings_of l.fn.self.links) (drop (length l.fn.replies.items) l.replies.items);
  ends : All (EndsOwn (rings_of l.self.links)) l.requests.items;
  places : places_of l.self.pool ≡ places_of l.fn.self.pool;
  room : vec_len l.replies + length l.requests.items ≤ vec_capacity l.replies;
}

abbrev pub decreases-loop-request : goal.decreases-loop-request
decreases-loop-request g l = length l.requests.items
