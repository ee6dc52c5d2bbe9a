use Rattle.std.proofs.Common.{◌≡◌, ◌≤◌, ℕ, Some}
use Rattle.roll_frame.specs.Core.{settled}
use Rattle.roll_frame.specs.declared.row.Cell.{Cell}
use Rattle.roll_laws.specs.Laws.{known_cell}
use Rattle.roll_session.proofs.Following.{ever_of}
use Rattle.roll_laws.proofs.KeptPaths.{known_cells_stay, settled_never_falls}
use Rattle.roll_host.specs.Requests.{all_events}
use Rattle.test_laws.proofs.host_laws.host_goes_on.Goals as goal

pub returns-clause-settled : goal.returns-clause-settled
returns-clause-settled g c =
    ever_of g.G.Game.step _ c.host_laws.ensures.log (λ core later. settled core ≤ settled later) settled_never_falls (all_events c.in_ok-run.ensures.done.exchanges) _ c.in_ok-run.ensures.done.played.core

pub returns-clause-known : goal.returns-clause-known
returns-clause-known g c =
    ever_of g.G.Game.step _ c.host_laws.ensures.log (λ core later. (place t : ℕ) (cell : Cell) → known_cell core.players place t ≡ Some cell → known_cell later.players place t ≡ Some cell) known_cells_stay (all_events c.in_ok-run.ensures.done.exchanges) _ c.in_ok-run.ensures.done.played.core
