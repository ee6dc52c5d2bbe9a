use Rattle.std.proofs.Common.{◌≡◌}
use Rattle.roll_pool.proofs.worker.WorkerEnd.try_to_work.Given as goal

abbrev pub invariant-loop : goal.invariant-loop
invariant-loop g l = (l.self ≡ l.initial.self) × (g.G.RawGame.call_counts l.game ≡ g.G.RawGame.call_counts l.initial.game)
