use Rattle.std.proofs.Common.{true}
use Rattle.roll_chain.specs.Again.{words_until, ArePlayed}
use Rattle.roll_chain.proofs.again.Again.give_all.Given as goal

abbrev pub invariant-loop-place : goal.invariant-loop-place
invariant-loop-place g l = ArePlayed g.S.Plays.makes g.S.Plays.declines l.fn.session (words_until l.self.terms.now l.self.me (g.P.Networked.seen l.self.past.now) l.frame l.place) l.session true
