use Rattle.roll_pool.proofs.Moves.{forks}
use Rattle.roll_pool.proofs.open.hire.Goals as goal

pub another-requires : goal.another-requires
another-requires g c = forks _ _ c.requires
