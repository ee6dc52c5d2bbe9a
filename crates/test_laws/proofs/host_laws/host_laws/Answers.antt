use Rattle.std.proofs.Common.{◌≡◌, ◌≤◌, ℕ, subst}
use Rattle.roll_session.specs.Seen.{Seen, FollowsLog, IsLeast}
use Rattle.test_laws.proofs.host_laws.host_laws.Goals as goal

pub returns-clause-log : goal.returns-clause-log
returns-clause-log g c = subst (FollowsLog g.G.Game.step) c.session.ensures c.laws.ensures.log

pub returns-clause-least : goal.returns-clause-least
returns-clause-least g c = subst (λ (s : Seen). (m : ℕ) → IsLeast s.core m) c.session.ensures c.laws.ensures.least
