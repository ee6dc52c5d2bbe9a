use Rattle.roll_frame.specs.declared.entry.Entry.TheVariants.{Disconnect}
use Rattle.roll_session.proofs.Changes.{disconnect_answered}
use Rattle.roll_session.proofs.Hearing.{hears_answered}
use Rattle.roll_session.proofs.networked.SessionNetworked.disconnect_player.Goals as goal

pub returns-clause-keeps : goal.returns-clause-keeps
returns-clause-keeps g c =
    let e = c.disconnect_player.ensures in
    hears_answered g.G.Game.step c.args.self.now c.disconnect_player.new.self (Disconnect c.args.player) _ tt
    (disconnect_answered g.G.Game.step c.args.self.now c.disconnect_player.new.self c.args.player c.disconnect_player.result e.accepted e.taken e.refused)
