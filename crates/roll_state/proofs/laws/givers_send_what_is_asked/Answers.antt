use Rattle.roll_state.proofs.Sent.{is_answer as law}
use Rattle.roll_state.proofs.laws.givers_send_what_is_asked.Goals as goal

pub returns : goal.returns
returns c = law
