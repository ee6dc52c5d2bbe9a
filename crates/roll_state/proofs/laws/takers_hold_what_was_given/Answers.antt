use Rattle.roll_state.proofs.Crossing.{takers_hold_what_was_given as law}
use Rattle.roll_state.proofs.laws.takers_hold_what_was_given.Goals as goal

pub returns : goal.returns
returns c = law
