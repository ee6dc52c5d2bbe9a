use Rattle.roll_pool.proofs.Serving.{serves_none, serves_more, serves_until}
use Rattle.roll_pool.proofs.worker.WorkerEnd.serve.Goals as goal

pub loop-init : goal.loop-init
loop-init g c = serves_none _

pub loop-preserved : goal.loop-preserved
loop-preserved g c = serves_more c.try_to_work.result _ _ _ c.loop.invariant c.try_to_work.ensures

pub loop-preserved-in-Did : goal.loop-preserved-in-Did
loop-preserved-in-Did g c = serves_more c.try_to_work.result _ _ _ c.loop.invariant c.try_to_work.ensures

pub returns-in-Closed-clause-served : goal.returns-in-Closed-clause-served
returns-in-Closed-clause-served g c = serves_until c.try_to_work.result _ _ _ c.loop.invariant c.in-Closed.is c.try_to_work.ensures
