use Rattle.std.proofs.Common.{◌≡◌, ◌∙◌, ap}
use Rattle.roll_contact.specs.Seals.{said_by}
use Rattle.roll_contact.specs.declared.key.Key.{Key}
use Rattle.roll_wire.specs.Spelling.{Leaves}
use Rattle.roll_peer.specs.Peered.{Peered}
use Rattle.roll_peer.specs.Sending.{text_for}
use Rattle.roll_peer.proofs.peer.Peer.bye.Goals as goal

pub returns-clause-said : goal.returns-clause-said
unfolding text_for
returns-clause-said c =
    let peer : Peered = c.args.self.now in
    let said : c.say.result.items ≡ said_by c.key_for.result peer.settings.me (Leaves c.args.why) =
    rw (← c.self.view_is) c.say.ensures.said in
    said ∙ ap (λ (key : Key). said_by key peer.settings.me (Leaves c.args.why)) c.key_for.ensures
