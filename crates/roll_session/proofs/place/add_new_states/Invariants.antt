use Rattle.roll_session.proofs.NewStates.{IsHung}
use Rattle.roll_session.proofs.place.add_new_states.Given as goal

abbrev pub invariant-loop-frame : goal.invariant-loop-frame
invariant-loop-frame g l = IsHung l.fn.saves l.saves l.route l.fn.states.items l.left.items l.from l.frame l.at
