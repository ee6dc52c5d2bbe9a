use Rattle.std.proofs.Common.{◌≡◌}
use Rattle.fazgrond.specs.Hosted.{places_of}
use Rattle.example_on_threads.proofs.side.Side.tell.Given as goal

abbrev pub invariant-loop : goal.invariant-loop
invariant-loop l = places_of l.host.pool ≡ places_of l.fn.host.pool
