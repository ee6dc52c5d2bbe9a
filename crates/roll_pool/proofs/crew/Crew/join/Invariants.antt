use Rattle.std.proofs.Common.{◌≡◌, ◌+◌, ◌≤◌, ◌++◌, map, vec_len, vec_capacity}
use Rattle.std.specs.Vec.Iter.{into_iter_items, into_iter_len}
use Rattle.roll_pool.specs.Served.{AreBack}
use Rattle.roll_pool.proofs.crew.Crew.join.Given as goal

-- the first of the crew are back
abbrev pub invariant-loop-post : goal.invariant-loop-post
invariant-loop-post g l =
    (goal.iterator-loop-post g).can_next l.post-iterator × (goal.iterator-loop-post g).is_finite l.post-iterator
    × ((first : _) × (first ++ into_iter_items l.post-iterator ≡ l.fn.self) × AreBack first l.ends.items (map (λ x. g.G.RawGame.call_counts x) l.games.items))
    × (vec_len l.ends + into_iter_len l.post-iterator ≤ vec_capacity l.ends) × (vec_len l.games + into_iter_len l.post-iterator ≤ vec_capacity l.games)
