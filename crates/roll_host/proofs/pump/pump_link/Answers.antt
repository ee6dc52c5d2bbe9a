use Rattle.std.proofs.Common.{◌≡◌, ◌∙◌, None, Some, ap, arith, inr}
use Rattle.std.specs.Int.{from_bool}
use Rattle.std.specs.Prelude.{is_some}
use Rattle.roll_host.specs.Outcomes.{IsOutcome}
use Rattle.roll_host.specs.declared.pump.Outcome.TheVariants.{Applied, Held, Empty}
use Rattle.roll_host.proofs.Taking.{going_more, once, pumped}
use Rattle.roll_host.proofs.pump.pump_link.Goals as goal

pub loop-preserved : goal.loop-preserved
loop-preserved g c =
    let did : IsOutcome g.G.Game.step c.loop.session c.loop.link c.take_next.new.session c.take_next.new.link (Applied c.in-Applied.why) = c.in-Applied.ensures.outcome in
    let one : c.from-refused.result ≡ from_bool (is_some c.in-Applied.why) = c.from-refused.ensures ∙ ap from_bool c.is_some.ensures in
    record {
      going = rw (one, c.or-refusal.ensures) (going_more g.G.Game.step c.args.session.now c.args.link.now c.loop.session c.loop.link c.take_next.new.session c.take_next.new.link c.loop.applied c.loop.refused c.loop.refusal c.in-Applied.why c.loop.invariant.going did);
      count = omega (arith, c.loop.invariant.count);
      few = omega (arith, c.loop.invariant.few, one, once c.in-Applied.why);
      free = λ _. did.free;
    }

pub returns-in-Held-clause-pumps : goal.returns-in-Held-clause-pumps
returns-in-Held-clause-pumps g c =
    let did : IsOutcome g.G.Game.step c.loop.session c.loop.link c.take_next.new.session c.take_next.new.link (Held c.in-Held.why) = c.in-Held.ensures.outcome in
    pumped g.G.Game.step c.args.session.now c.args.link.now c.loop.session c.loop.link c.take_next.new.session c.take_next.new.link c.loop.applied c.loop.refused c.loop.refusal (Some c.in-Held.why) c.loop.invariant.going did.0 did.1 (omega (arith, c.loop.invariant.count)) tt did.2

pub returns-in-Empty-clause-pumps : goal.returns-in-Empty-clause-pumps
returns-in-Empty-clause-pumps g c =
    let did : IsOutcome g.G.Game.step c.loop.session c.loop.link c.take_next.new.session c.take_next.new.link Empty = c.in-Empty.ensures.outcome in
    pumped g.G.Game.step c.args.session.now c.args.link.now c.loop.session c.loop.link c.take_next.new.session c.take_next.new.link c.loop.applied c.loop.refused c.loop.refusal None c.loop.invariant.going did.0 did.1 (omega (arith, c.loop.invariant.count)) (inr did.3) (rw did.2 tt)
