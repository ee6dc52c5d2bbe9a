use Rattle.std.proofs.Common.{◌∙◌, sym}
use Rattle.roll_relay.proofs.Told.{many_told}
use Rattle.roll_relay.proofs.session.HeldSessionNetworked.players.Goals as goal

pub returns : goal.returns
returns g c =
    let s = g.S.Networked.seen c.args.self.now.session.now in
    let words = c.args.self.now.held.now.words.items in
    c.players.ensures ∙ sym (many_told s words)
