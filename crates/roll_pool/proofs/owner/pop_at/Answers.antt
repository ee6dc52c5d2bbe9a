use Rattle.std.proofs.Common.{◌<◌, length, rules}
use Rattle.roll_pool.proofs.Collecting.{rings_set, came_set}
use Rattle.roll_pool.proofs.owner.pop_at.Goals as goal

pub returns-clause-same : goal.returns-clause-same
returns-clause-same g c = (rings_set _ _ _ _ c.index_mut-ring.ensures.value c.pop.ensures.ring, search rules)

pub returns-clause-some : goal.returns-clause-some
returns-clause-some g c =
    let lt : c.args.place < length c.args.rings.now.items = search rules in
    came_set _ _ _ _ _ lt c.index_mut-ring.ensures.value c.pop.ensures.some
