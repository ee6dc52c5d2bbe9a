use Rattle.std.proofs.Common.{refl}
use Rattle.roll_session.proofs.gameless.Core.laws.Goals as goal

pub returns-clause-log : goal.returns-clause-log
returns-clause-log g c = rw (← c.self.view_is) (record { log = c.self.invariant.0.is_log; core = refl })

pub returns-clause-inputs : goal.returns-clause-inputs
returns-clause-inputs g c = rw (← c.self.view_is) c.self.invariant.0.kept.inputs

pub returns-clause-kept : goal.returns-clause-kept
returns-clause-kept g c = rw (← c.self.view_is) c.self.invariant.0.kept.kept_is
