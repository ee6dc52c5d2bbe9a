use Rattle.std.proofs.Common.{◌≡◌, ◌∙◌, arith, get_or, refl, take}
use Rattle.std.proofs.lemmas.List.{get_or-set_other, take_all}
use Rattle.roll_host.specs.Pumps.{PumpsLink}
use Rattle.roll_host.proofs.Joining.{links_more, links_none, pumped_rings}
use Rattle.roll_host.proofs.pump.pump_links.Goals as goal

pub loop-place-init : goal.loop-place-init
loop-place-init g c = record { pumped = links_none g.G.Game.step c.args.session.now c.args.links.now; rest = λ i d h. refl; most = omega arith; few = omega arith }

pub loop-place-preserved : goal.loop-place-preserved
loop-place-preserved g c =
    let now = c.loop-place.invariant in
    let links = c.loop-place.links in
    let k = c.loop-place.place in
    let l = c.pump_link-more.new.link in
    let d = c.index-links-place.result in
    let more = c.pump_link-more.result in
    let pumps : PumpsLink g.G.Game.step c.loop-place.session (get_or links k d) c.pump_link-more.new.session l more = c.pump_link-more.ensures.pumps in
    record {
      pumped = rw (c.or-refusal.ensures, c.or-held.ensures) (links_more g.G.Game.step c.args.session.now c.args.links.now c.loop-place.session links c.pump_link-more.new.session l d k c.loop-place.applied c.loop-place.refused c.loop-place.refusal c.loop-place.held more
          (omega (arith, c.loop-place.auto.links, c.loop-place-test.true)) c.loop-place-test.true (now.rest k d (omega arith)) now.pumped pumps);
      rest = λ i e h. get_or-set_other links k i l e (λ (same : i ≡ k). absurd (omega (arith, h, same))) ∙ now.rest i e (omega (arith, h));
      most = omega (arith, now.most, pumps.count, pumps.turn.most);
      few = omega (arith, now.few, c.pump_link-more.ensures.few);
    }

pub returns-clause-pumped : goal.returns-clause-pumped
returns-clause-pumped g c =
    let before : take c.loop-place.place c.args.links.now ≡ c.args.links.now = take_all c.loop-place.place c.args.links.now (omega arith) in
    let after : take c.loop-place.place c.loop-place.links ≡ c.loop-place.links = take_all c.loop-place.place c.loop-place.links (omega (arith, c.loop-place.auto.links)) in
    rw (before, after) at c.loop-place.invariant.pumped

pub returns-clause-rings : goal.returns-clause-rings
returns-clause-rings g c = pumped_rings g.G.Game.step c.args.session.now c.loop-place.session c.args.links.now c.loop-place.links (record { applied = c.loop-place.applied; refused = c.loop-place.refused; refusal = c.loop-place.refusal; held = c.loop-place.held }) (returns-clause-pumped g c)
