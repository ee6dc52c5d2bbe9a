use Rattle.std.proofs.Common.{refl}
use Rattle.roll_session.proofs.Replaying.{entry_calls, was_refused}
use Rattle.roll_session.proofs.session.Session.redo.Goals as goal

pub returns-in-Ok-Refused-clause-stops : goal.returns-in-Ok-Refused-clause-stops
returns-in-Ok-Refused-clause-stops g c =
    let replied = rw c.in-Ok-Refused.field-0-is at c.in-Ok-Refused.ensures.replied in
    let was = was_refused g.G.Game.step c.args.self.now c.perform.new.self c.in-Call.call c.in-Ok-Refused.why replied in
    rw c.in-Call.is (refl, was.2, entry_calls c.in-Call.call, was.0, was.1)
