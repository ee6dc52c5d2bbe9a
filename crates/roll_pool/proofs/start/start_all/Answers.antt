use Rattle.std.proofs.Common.{◌≡◌, ◌++◌, ◌∷◌, [], ap, length, map, rules}
use Rattle.std.specs.Vec.Iter.{into_iter_items}
use Rattle.roll_pool.specs.Served.{Member}
use Rattle.roll_pool.proofs.Hiring.{all_hired, hired_more}
use Rattle.roll_pool.proofs.Serving.{all_placed}
use Rattle.roll_pool.proofs.start.start_all.Goals as goal

pub loop-end-preserved : goal.loop-end-preserved
loop-end-preserved g c =
    let was = c.loop-end.invariant in
    let member : Member _ = record { end = c.in-Some.end; counts = g.G.RawGame.call_counts c.in-Some-next.game } in
    let crew : c.hire.new.self ≡ c.loop-end.crew ++ member ∷ [] = c.in_default-hire.ensures.hired in
    let games = ap (map (λ x. g.G.RawGame.call_counts x)) c.in-Some-next.ensures.items in (
      tt,
      tt,
      rw crew (hired_more (λ (m : Member _). m.end) c.loop-end.crew member _ _ _ was.2 c.in-Some.ensures.steps.0),
      rw crew (hired_more (λ (m : Member _). m.counts) c.loop-end.crew member _ _ _ was.3 games),
      search rules,
    )

pub returns-clause-ends : goal.returns-clause-ends
returns-clause-ends g c =
    let empty : length (into_iter_items c.loop-end.end-iterator) ≡ 0 = let steps = c.in-None.ensures.steps in search rules in
    all_hired (λ (m : Member _). m.end) c.loop-end.crew _ c.args.ends.items c.loop-end.invariant.2 empty

pub returns-clause-places : goal.returns-clause-places
returns-clause-places g c =
    let empty : length (into_iter_items c.loop-end.end-iterator) ≡ 0 = let steps = c.in-None.ensures.steps in search rules in
    all_placed c.loop-end.crew _ c.args.ends.items c.loop-end.invariant.2 empty
