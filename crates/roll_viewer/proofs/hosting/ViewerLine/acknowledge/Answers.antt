use Rattle.std.proofs.Common.{◌≤◌, ℕ, List, [], ◌∷◌, take, arith}
use Rattle.roll_viewer.specs.Rows.{least_with}
use Rattle.roll_viewer.proofs.hosting.ViewerLine.acknowledge.Goals as goal

least_below : (m : ℕ) (ns : List ℕ) → least_with m ns ≤ m
least_below m [] = omega arith
least_below m (n ∷ ns) = omega (arith, least_below m ns)

pub invariant_of-self : goal.invariant_of-self
invariant_of-self c =
    omega (
      arith,
      c.self.invariant,
      c.max-self-inside.ensures,
      c.least_with-rows.ensures,
      least_below c.self.inside.told (take c.players-players.result c.args.has.now),
    )
