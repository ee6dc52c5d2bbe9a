use Rattle.std.proofs.Common.{◌∙◌, sym}
use Rattle.roll_session.proofs.Delays.{next_input}
use Rattle.roll_session.proofs.session.Session.input_frame.Goals as goal

pub returns-then-is_local-clause-delayed : goal.returns-then-is_local-clause-delayed
returns-then-is_local-clause-delayed g c =
    let local = rw c.laws.ensures.log.core at (sym c.is_local.ensures ∙ c.if-is_local.true) in
    rw (c.confirmed.ensures, ← c.self.view_is, c.laws.ensures.log.core) (next_input _ _ _ c.self.invariant.is_log c.args.player local)
