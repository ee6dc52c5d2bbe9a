use Rattle.roll_pool.specs.Served.{Serves}
use Rattle.roll_pool.proofs.worker.WorkerEnd.serve.Given as goal

abbrev pub invariant-loop : goal.invariant-loop
invariant-loop g l =
    Serves (record { end = l.initial.self; counts = g.G.RawGame.call_counts l.initial.game }) (record { end = l.self; counts = g.G.RawGame.call_counts l.game })
