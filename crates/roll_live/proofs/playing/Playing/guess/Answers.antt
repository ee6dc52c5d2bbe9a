use Rattle.roll_live.proofs.Headlines.{guess_counts}
use Rattle.roll_live.proofs.playing.Playing.guess.Goals as goal

pub returns-clause-session : goal.returns-clause-session
returns-clause-session g c = guess_counts g.G.Game.step c.args.self.now.host c.speculate.new.self c.args.player c.args.words.now c.args.until c.speculate.result c.speculate.ensures.speculated
