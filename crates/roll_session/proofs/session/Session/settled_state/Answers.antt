use Rattle.roll_session.proofs.Holding.{session_root}
use Rattle.roll_session.proofs.WithGame.{session_of}
use Rattle.roll_session.proofs.session.Session.settled_state.Goals as goal

pub returns : goal.returns
returns g c =
    let l = c.laws.ensures in
    rw (← c.self.view_is, l.log.core)
    (session_root (session_of c.self.inside.core c.self.invariant l.log l.inputs l.kept) c.root.result c.get.result.now (rw c.saved-tree.ensures at c.root.ensures.state_named) (rw c.saved-tree.ensures at c.get.ensures))
