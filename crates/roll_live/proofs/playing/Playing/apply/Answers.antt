use Rattle.std.proofs.Common.{◌∙◌, ap, arith, refl, sym}
use Rattle.roll_host.specs.Hosted.{places_of}
use Rattle.roll_host.specs.Pumps.{items_of}
use Rattle.roll_live.proofs.Played.{heard_since, nothing_heard, succeeded}
use Rattle.roll_live.proofs.playing.Playing.apply.Goals as goal

pub loop-init : goal.loop-init
loop-init g c = record { session = refl; sent = ap (λ s. s.sent) (succeeded c.send.result _ (sym c.is_err.ensures.value ∙ c.if-is_err.false) c.send.ensures.sent); places = refl }

pub loop-preserved : goal.loop-preserved
loop-preserved g c =
    let did = c.pump-did.ensures.pumped in
    record {
      session = nothing_heard g.G.Game.step _ _ (items_of did.turns) _ _ did.heard (omega (arith, did.count, c.if-did-gt0.false)) ∙ c.loop.invariant.session;
      sent = c.loop.invariant.sent;
      places = ap (λ pool. places_of pool) c.pump-did.ensures.pool ∙ c.loop.invariant.places;
    }

pub returns-then-is_some-clause-places : goal.returns-then-is_some-clause-places
returns-then-is_some-clause-places g c = ap (λ pool. places_of pool) c.pump-did.ensures.pool ∙ c.loop.invariant.places

pub returns-then-did-gt0-clause-heard : goal.returns-then-did-gt0-clause-heard
returns-then-did-gt0-clause-heard g c =
    let did = c.pump-did.ensures.pumped in
    (items_of did.turns, _, heard_since g.G.Game.step _ _ _ (items_of did.turns) _ _ c.loop.invariant.session did.heard, omega (arith, did.count, c.if-did-gt0.true))

pub returns-then-did-gt0-clause-places : goal.returns-then-did-gt0-clause-places
returns-then-did-gt0-clause-places g c = ap (λ pool. places_of pool) c.pump-did.ensures.pool ∙ c.loop.invariant.places
