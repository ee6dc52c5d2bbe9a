use Rattle.std.proofs.Common.{◌≡◌, [], ◌∷◌, ap, refl, subst, Ok, Err, rules}
use Rattle.roll_frame.specs.declared.refusal.Refusal.TheVariants.{NoMemory}
use Rattle.roll_session.specs.Calls.{asked}
use Rattle.roll_host.specs.Absorbs.{events_of_all}
use Rattle.roll_host.specs.Guesses.{Speculates}
use Rattle.roll_host.specs.Heard.{events_of}
use Rattle.roll_host.specs.Hosted.{rings_of}
use Rattle.roll_host.specs.Pumps.{items_of}
use Rattle.roll_host.proofs.host.Host.perform.Goals as goal

pub returns-in_ok-said-in-Session-clause-done : goal.returns-in_ok-said-in-Session-clause-done
returns-in_ok-said-in-Session-clause-done g c =
    let replied = rw c.session_mut.ensures.session at c.in_ok-said-in-Session.ensures.replied in
    rw c.in-Session.is (record { events = asked c.in-Session.request ∷ []; done = (refl, replied, refl) })

pub returns-in-Pump-clause-done : goal.returns-in-Pump-clause-done
returns-in-Pump-clause-done g c = rw c.in-Pump.is (record { events = events_of (items_of c.pump.ensures.pumped.turns); done = (c.pump.ensures.pumped, refl, c.pump.ensures.pool) })

pub returns-in-Absorb-clause-done : goal.returns-in-Absorb-clause-done
returns-in-Absorb-clause-done g c = rw c.in-Absorb.is (record { events = events_of_all c.absorb.ensures.absorbed.fates; done = (c.absorb.ensures.absorbed, refl, c.absorb.ensures.rest) })

pub returns-in-Ok-clause-done : goal.returns-in-Ok-clause-done
returns-in-Ok-clause-done g c =
    let did = subst (λ ws. Speculates g.G.Game.step c.args.self.now c.speculate.new.self c.in-Speculate.player ws c.in-Speculate.until (Ok c.in-Ok.ticket)) c.as_slice.ensures.value c.in-Ok.ensures.speculated in
    rw c.in-Speculate.is (record { events = []; done = (refl, did, λ e. cc e) })

pub returns-in-Err : goal.returns-in-Err
returns-in-Err g c =
    let did = subst (λ ws. Speculates g.G.Game.step c.args.self.now c.speculate.new.self c.in-Speculate.player ws c.in-Speculate.until (Err c.in-Err.why)) c.as_slice.ensures.value c.in-Err.ensures.speculated in
    let other : c.in-Err.why ≡ NoMemory → ⊥ = search rules in
    record { done = rw c.in-Speculate.is (record { events = []; done = (refl, did, λ e. other (cc e)) }); short = tt; rings = ap (λ ls. rings_of ls) c.speculate.ensures.links; places = c.speculate.ensures.places }
