use Rattle.std.proofs.Common.{◌≡◌, ◌∙◌, ap, subst}
use Rattle.roll_contact.specs.Seals.{message_by, said_by}
use Rattle.roll_contact.specs.declared.key.Key.{Key}
use Rattle.roll_wire.specs.Spelling.{content, Fits}
use Rattle.roll_peer.specs.Peered.{Peered}
use Rattle.roll_peer.specs.Sending.{text_for}
use Rattle.roll_peer.proofs.peer.Peer.sealed_for.Goals as goal

pub returns-clause-said : goal.returns-clause-said
unfolding text_for
returns-clause-said c =
    let peer : Peered = c.args.self.now in
    let said : c.say.result.items ≡ said_by c.turn_to.new.self peer.settings.me (content c.args.body) =
    rw (← c.self.view_is) c.say.ensures.said in
    said ∙ ap (λ (key : Key). said_by key peer.settings.me (content c.args.body)) (c.turn_to.ensures ∙ c.key_for-key.ensures)

pub returns-clause-fits : goal.returns-clause-fits
returns-clause-fits c =
    let peer : Peered = c.args.self.now in
    let fits : Fits (message_by c.turn_to.new.self peer.settings.me (content c.args.body)) =
    rw (← c.self.view_is) c.say.ensures.fits in
    subst (λ (key : Key). Fits (message_by key peer.settings.me (content c.args.body))) (c.turn_to.ensures ∙ c.key_for-key.ensures) fits
