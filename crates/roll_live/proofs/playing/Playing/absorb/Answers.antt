use Rattle.roll_host.proofs.Branches.{absorbed_branches}
use Rattle.roll_live.proofs.playing.Playing.absorb.Goals as goal

pub returns-clause-played : goal.returns-clause-played
returns-clause-played g c = absorbed_branches g.G.Game.step _ _ _ _ _ c.absorb.ensures.absorbed
