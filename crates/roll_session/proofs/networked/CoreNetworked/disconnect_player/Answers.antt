use Rattle.roll_frame.specs.declared.entry.Entry.TheVariants.{Disconnect}
use Rattle.roll_session.proofs.Hearing.{hears_answered}
use Rattle.roll_session.specs.Gameless.{still}
use Rattle.roll_session.proofs.networked.CoreNetworked.disconnect_player.Goals as goal

pub returns-clause-keeps : goal.returns-clause-keeps
returns-clause-keeps g c = record {
  hears = hears_answered still c.args.self.now.seen c.take.new.self.seen (Disconnect c.args.player) _ tt c.take.ensures.answered;
  values = c.take.ensures.keeps;
}
