use Rattle.std.proofs.Common.{◌≡◌, ◌∙◌, ap, subst, sym, Some, ℕ}
use Rattle.std.specs.Prelude.{Option}
use Rattle.roll_contact.specs.declared.key.Key.{Key}
use Rattle.roll_peer.specs.Peered.{Peered}
use Rattle.roll_peer.specs.Receiving.{byte_at, key_of, open_by, sender_of, IsOpened}
use Rattle.roll_peer.specs.declared.receiving.TheConstants.{KIND_AT}
use Rattle.roll_peer.proofs.Said.{opened_is}
use Rattle.roll_peer.proofs.peer.Peer.body_of.Goals as goal

pub returns-in-Some-clause-opened : goal.returns-in-Some-clause-opened
returns-in-Some-clause-opened c =
    let peer : Peered = c.args.self.now in
    let bytes = c.args.bytes.now in
    let key : Some c.turn_to.new.self ≡ key_of peer (sender_of bytes) (byte_at bytes KIND_AT) =
    ap (λ (k : Key). Some k) c.turn_to.ensures
    ∙ (sym c.in-Some.is ∙ (c.key_of.ensures
    ∙ (ap (λ (kind : ℕ). key_of peer c.args.sender kind) c.byte_of.ensures
    ∙ ap (λ (sender : ℕ). key_of peer sender (byte_at bytes KIND_AT)) c.requires.sent))) in
    let by : IsOpened c.open_by.result (open_by peer.settings.takes_marks (Some c.turn_to.new.self) bytes) =
    rw (← c.self.view_is) c.open_by.ensures.opened in
    let at : IsOpened c.open_by.result (open_by peer.settings.takes_marks (key_of peer (sender_of bytes) (byte_at bytes KIND_AT)) bytes) =
    subst (λ (k : Option Key). IsOpened c.open_by.result (open_by peer.settings.takes_marks k bytes)) key by in
    rw (opened_is peer bytes) at
