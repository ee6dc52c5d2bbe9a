use Rattle.roll_game.proofs.Reached.{never_diverges}
use Rattle.roll_game.proofs.divergence.never_diverges.Goals as goal

pub returns : goal.returns
returns g c = never_diverges g.G.RawGame.ran g.G.Game.step g.met.G.Game.is_step
