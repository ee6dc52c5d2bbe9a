use Rattle.std.proofs.Common.{◌≡◌, ◌++◌, map}
use Rattle.std.specs.Vec.Iter.{into_iter_items, into_iter_len}
use Rattle.roll_pool.proofs.start.start_all.Given as goal

abbrev pub invariant-loop-end : goal.invariant-loop-end
invariant-loop-end g l =
    (goal.iterator-loop-end g).can_next l.end-iterator × (goal.iterator-loop-end g).is_finite l.end-iterator
    × (map (λ m. m.end) l.crew ++ into_iter_items l.end-iterator ≡ l.fn.ends.items)
    × (map (λ m. m.counts) l.crew ++ map (λ x. g.G.RawGame.call_counts x) (into_iter_items l.in_order) ≡ map (λ x. g.G.RawGame.call_counts x) l.fn.games.items)
    × (into_iter_len l.in_order ≡ into_iter_len l.end-iterator)
