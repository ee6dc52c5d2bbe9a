use Rattle.std.proofs.lemmas.Slice.Eq.{slice_eq-Decides}
use Rattle.roll_duel.proofs.Same.{ship_eq-Decides}
use Rattle.roll_duel.proofs.state.same_ships.Goals as goal

pub returns : goal.returns
returns c = slice_eq-Decides ship_eq-Decides _ _ _ c.eq.ensures
