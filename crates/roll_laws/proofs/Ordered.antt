-- Paths in order are all of the paths, sorted.
use Rattle.roll_frame.proofs.Sorting.{order_permutes, order_sorted}
use Rattle.roll_laws.specs.Laws.{OrderKeepsAll}

pub order_keeps_all : OrderKeepsAll
order_keeps_all paths = record { sorted = order_sorted paths; permutes = order_permutes paths }
