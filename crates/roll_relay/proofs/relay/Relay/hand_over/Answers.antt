use Rattle.std.proofs.Common.{◌≡◌, ℕ, Bool, List, Option, subst}
use Rattle.roll_carry.specs.Carrying.{after_sent, goes_at_once, Carrying}
use Rattle.roll_relay.specs.Relaying.{is_at_once, sending}
use Rattle.roll_relay.proofs.relay.Relay.hand_over.Goals as goal

pub returns-in-Some-clause-sent : goal.returns-in-Some-clause-sent
returns-in-Some-clause-sent c =
    subst (λ (tail : Option (List ℕ)). c.send.new.self ≡ sending c.args.peer.now c.args.machine tail c.args.self.now) c.in-Some.ensures.exact
    (subst (λ (shut : List Bool). c.send.new.self ≡ after_sent c.args.self.now shut c.args.machine c.in-Some.tail.now) c.shut_of.ensures
    (subst (λ (here : Carrying). c.send.new.self ≡ after_sent here c.shut_of.result c.args.machine c.in-Some.tail.now) c.self.view_is
    c.send.ensures.sent))

pub returns-in-Some-clause-at_once : goal.returns-in-Some-clause-at_once
returns-in-Some-clause-at_once c =
    subst (λ (tail : Option (List ℕ)). c.send.result ≡ is_at_once c.args.peer.now c.args.machine tail c.args.self.now) c.in-Some.ensures.exact
    (subst (λ (shut : List Bool). c.send.result ≡ goes_at_once c.args.self.now shut c.args.machine c.in-Some.tail.now) c.shut_of.ensures
    (subst (λ (here : Carrying). c.send.result ≡ goes_at_once here c.shut_of.result c.args.machine c.in-Some.tail.now) c.self.view_is
    c.send.ensures.at_once))
