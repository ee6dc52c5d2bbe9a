use Rattle.std.proofs.Common.{◌≡◌, ◌∙◌, ◌++◌, [], ◌∷◌, map, length, vec_len, ap, sym, append_assoc, rules}
use Rattle.std.proofs.lemmas.List.{length-map, map-append}
use Rattle.std.specs.Vec.Iter.{into_iter_items}
use Rattle.roll_pool.proofs.Serving.{back_more, all_back, places_back, many_back}
use Rattle.roll_pool.proofs.crew.Crew.join.Goals as goal

pub loop-post-preserved : goal.loop-post-preserved
loop-post-preserved g c =
    let was = c.loop-post.invariant in
    let first = was.2.0 in
    let items = c.in-Some.ensures.steps.0 in
    let game = c.join-end.result.1 in
    let ends : c.push_reserved.new.self.items ≡ c.loop-post.ends.items ++ c.join-end.result.0 ∷ [] = c.push_reserved.ensures.items in
    let games : c.push_reserved-in-loop-post.new.self.items ≡ c.loop-post.games.items ++ game ∷ [] = c.push_reserved-in-loop-post.ensures.items in
    let counts = ap (map (λ x. g.G.RawGame.call_counts x)) games ∙ map-append (λ x. g.G.RawGame.call_counts x) c.loop-post.games.items (game ∷ []) in (
      tt,
      tt,
      (
        first ++ c.in-Some.post ∷ [],
        append_assoc first (c.in-Some.post ∷ []) _ ∙ ap (λ l. first ++ l) (sym items) ∙ was.2.1,
        back_more first _ _ c.in-Some.post (record { end = c.join-end.result.0; counts = g.G.RawGame.call_counts game }) _ _ was.2.2 c.join-end.ensures ends counts,
      ),
      search rules,
      search rules,
    )

pub returns-clause-served : goal.returns-clause-served
returns-clause-served g c =
    let was = c.loop-post.invariant in
    let empty : length (into_iter_items c.loop-post.post-iterator) ≡ 0 = let steps = c.in-None.ensures.steps in search rules in
    all_back was.2.0 _ c.args.self _ _ was.2.1 empty was.2.2

pub returns-clause-ends : goal.returns-clause-ends
returns-clause-ends g c = places_back _ _ _ (returns-clause-served g c)

pub returns-clause-games : goal.returns-clause-games
returns-clause-games g c =
    let len : vec_len c.loop-post.games ≡ length c.loop-post.games.items = search rules in
    len ∙ sym (length-map c.loop-post.games.items (λ x. g.G.RawGame.call_counts x)) ∙ many_back _ _ _ (returns-clause-served g c)
