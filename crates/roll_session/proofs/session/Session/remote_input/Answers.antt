use Rattle.roll_session.proofs.Changes.{heard_of}
use Rattle.roll_session.proofs.session.Session.remote_input.Goals as goal

pub returns : goal.returns
returns g c =
    let h = heard_of g.G.Game.step c.args.self.now c.take.new.self c.args.player c.args.frame c.args.word c.take.result c.take.ensures in
    record { heard = h.0; fresh = h.1; refused = h.2 }
