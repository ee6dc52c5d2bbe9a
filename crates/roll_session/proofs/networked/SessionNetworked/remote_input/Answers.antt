use Rattle.roll_frame.specs.declared.entry.Entry.TheVariants.{Remote}
use Rattle.roll_session.proofs.Changes.{remote_answered}
use Rattle.roll_session.proofs.Hearing.{hears_answered}
use Rattle.roll_session.proofs.networked.SessionNetworked.remote_input.Goals as goal

pub returns-clause-keeps : goal.returns-clause-keeps
returns-clause-keeps g c =
    let e = c.remote_input.ensures in
    hears_answered g.G.Game.step c.args.self.now c.remote_input.new.self (Remote c.args.player c.args.frame c.args.word) _ tt
    (remote_answered g.G.Game.step c.args.self.now c.remote_input.new.self c.args.player c.args.frame c.args.word c.remote_input.result e.heard e.fresh e.refused)
