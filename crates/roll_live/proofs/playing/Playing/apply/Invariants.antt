use Rattle.std.proofs.Common.{◌≡◌, ◌++◌, [], ◌∷◌}
use Rattle.roll_host.specs.Hosted.{places_of}
use Rattle.roll_live.proofs.playing.Playing.apply.Given as goal

-- nothing was applied yet
abbrev pub invariant-loop : goal.invariant-loop
invariant-loop g l = record {
  session : l.self.host.session ≡ l.fn.self.host.session;
  sent : l.self.sender.sent ≡ l.fn.self.sender.sent ++ l.fn.item ∷ [];
  places : places_of l.self.host.pool ≡ places_of l.fn.self.host.pool;
}
