use Rattle.roll_relay.proofs.Told.{follows_told}
use Rattle.roll_relay.proofs.session.HeldSessionNetworked.laws.Goals as goal

pub returns : goal.returns
returns g c =
    let s = g.S.Networked.seen c.args.self.now.session.now in
    let words = c.args.self.now.held.now.words.items in
    let follows = follows_told g.S.Networked.step s words c.laws.ensures c.args.self.now.fits in
    record { log = follows.log; core = follows.core }
