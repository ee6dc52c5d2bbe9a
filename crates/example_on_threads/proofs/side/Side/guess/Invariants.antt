use Rattle.std.proofs.Common.{◌≡◌}
use Rattle.fazgrond.specs.Hosted.{places_of}
use Rattle.example_on_threads.proofs.side.Side.guess.Given as goal

abbrev pub invariant-loop-guess : goal.invariant-loop-guess
invariant-loop-guess l = places_of l.host.pool ≡ places_of l.fn.host.pool
