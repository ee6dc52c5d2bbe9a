use Rattle.std.proofs.Common.{sym}
use Rattle.roll_session.proofs.Delays.{as_many}
use Rattle.roll_session.proofs.gameless.Core.players.Goals as goal

pub returns : goal.returns
returns g c = rw (← c.self.view_is) (sym (as_many _ _ _ c.self.invariant.0.is_log))
