use Rattle.std.proofs.Common.{◌∙◌, sym}
use Rattle.roll_relay.proofs.Told.{told_stays}
use Rattle.roll_relay.proofs.session.HeldSessionNetworked.frame.Goals as goal

pub returns : goal.returns
returns g c =
    let s = g.S.Networked.seen c.args.self.now.session.now in
    let words = c.args.self.now.held.now.words.items in
    c.frame.ensures ∙ sym (told_stays s words).frame
