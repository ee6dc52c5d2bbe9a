use Rattle.roll_state.proofs.Asking.{takers_ask_for_what_is_missing as law}
use Rattle.roll_state.proofs.laws.takers_ask_for_what_is_missing.Goals as goal

pub returns : goal.returns
returns c = law
