use Rattle.roll_state.proofs.Asking.{Adding}
use Rattle.roll_state.proofs.pieces.Pieces.add_missing.Given as goal

abbrev pub invariant-loop-place : goal.invariant-loop-place
invariant-loop-place l =
    Adding l.self.from l.most l.fn.places.items l.places.items l.start l.place l.end
