use Rattle.roll_chain.proofs.KnownRows.{AreCells}
use Rattle.roll_chain.proofs.known.known_row.Given as goal

abbrev pub invariant-loop-place : goal.invariant-loop-place
invariant-loop-place g l = AreCells (g.S.Networked.seen l.session).core.players l.frame l.place l.row
