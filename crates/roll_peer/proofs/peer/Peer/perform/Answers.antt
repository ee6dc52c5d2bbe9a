use Rattle.std.proofs.Common.{◌≡◌, [], ◌∷◌, List, ℕ, map, refl, subst, rules, Err}
use Rattle.roll_session.specs.Calls.{asked}
use Rattle.roll_session.specs.Seen.{plain}
use Rattle.roll_peer.specs.Receiving.{ticking}
use Rattle.roll_peer.specs.Requests.{HearsBytes}
use Rattle.roll_peer.specs.Turning.{Turns}
use Rattle.roll_peer.proofs.Running.{brought, ended_turn, heard_bytes, turned_by}
use Rattle.roll_peer.proofs.peer.Peer.perform.Goals as goal

pub returns-in_ok-said-in-Session-clause-done : goal.returns-in_ok-said-in-Session-clause-done
returns-in_ok-said-in-Session-clause-done g c =
    rw c.in-Session.is (record { events = asked c.in-Session.request ∷ []; done = (refl, (c.in_ok-said-in-Session.ensures.replied, refl)) })

pub returns-in-Receive-clause-done : goal.returns-in-Receive-clause-done
returns-in-Receive-clause-done g c =
    let e = c.receive.ensures in
    let heard = heard_bytes g.G.Game.step c.args.session.now c.receive.new.session c.args.self.now c.receive.new.self c.in-Receive.now c.as_slice.result.now c.receive.result e.accepted e.received e.refused e.session in
    let bytes = subst (λ (bs : List ℕ). HearsBytes g.G.Game.step (record { session = c.args.session.now; peer = c.args.self.now }) (record { session = c.receive.new.session; peer = c.receive.new.self }) c.in-Receive.now bs c.receive.result) c.as_slice.ensures.value heard in
    rw c.in-Receive.is (record { events = map (λ s. plain s.entry) e.keeps.said; done = (bytes, brought g.G.Game.step c.args.session.now c.receive.new.session e.keeps) })

pub returns-in-Poll-clause-done : goal.returns-in-Poll-clause-done
returns-in-Poll-clause-done g c =
    let e = c.poll.ensures in
    rw c.in-Poll.is (record { events = map (λ s. plain s.entry) e.keeps.said; done = (e.polled, brought g.G.Game.step c.args.session.now c.poll.new.session e.keeps) })

pub returns-in_err-turned-in-Turn-clause-short : goal.returns-in_err-turned-in-Turn-clause-short
returns-in_err-turned-in-Turn-clause-short g c =
    let e = c.in_err-turned-in-Turn in
    let is : c.from_residual-in_err-turned-in-Turn.result ≡ Err e.field-0.0 = search (rules, c.from_residual-in_err-turned-in-Turn.ensures) in
    let turns = subst (Turns c.args.session.now c.turn.new.session (ticking c.in-Turn.now c.args.self.now) c.turn.new.self) e.ensures.short c.turn.ensures.turned in
    rw (is, c.in-Turn.is) (turns, ended_turn g.G.Game.step c.args.session.now c.turn.new.session _ e.ensures.short c.turn.ensures.once)

pub returns-in_ok-turned-in-Turn-clause-done : goal.returns-in_ok-turned-in-Turn-clause-done
returns-in_ok-turned-in-Turn-clause-done g c =
    let e = c.in_ok-turned-in-Turn.ensures in
    let t = turned_by g.G.Game.step c.args.session.now c.turn.new.session _ e.other c.turn.ensures.once in
    rw (c.in-Turn.is, e.same) (record { events = t.0; done = (c.turn.ensures.turned, t.1) })
