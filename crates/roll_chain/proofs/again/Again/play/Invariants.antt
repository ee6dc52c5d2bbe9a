use Rattle.std.proofs.Common.{true}
use Rattle.roll_chain.specs.Again.{calls_from, ArePlayed}
use Rattle.roll_chain.proofs.again.Again.play.Given as goal

abbrev pub invariant-loop-frame : goal.invariant-loop-frame
invariant-loop-frame g l = ArePlayed g.S.Plays.makes g.S.Plays.declines l.fn.session (calls_from l.self.terms.now l.self.me (g.P.Networked.seen l.self.past.now) l.end l.frame) l.session true
