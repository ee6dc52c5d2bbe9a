use Rattle.std.proofs.Common.{◌≡◌, ◌∙◌, map}
use Rattle.roll_frame.specs.Order.{in_order}
use Rattle.roll_tree.specs.SavedStates.{path_of, paths_of}
use Rattle.roll_session.proofs.Holding.{session_kept}
use Rattle.roll_session.proofs.WithGame.{session_of}
use Rattle.roll_session.proofs.session.Session.kept.Goals as goal

pub returns-clause-kept : goal.returns-clause-kept
returns-clause-kept g c =
    let l = c.laws.ensures in
    let listed : c.in_ok-kept.field-0.items ≡ map (path_of c.saved.result.now.base) (in_order (paths_of c.saved.result.now)) = c.in_ok-kept.ensures in
    rw (← c.self.view_is, l.log.core) ((rw (c.saved.ensures, l.base) at listed) ∙ session_kept (session_of c.self.inside.core c.self.invariant l.log l.inputs l.kept))
