use Rattle.fazgrond_c.specs.Playing.{words_given, AreAllGiven}
use Rattle.fazgrond_c.proofs.playing.Inputs.give_all.Given as goal

abbrev pub invariant-loop-place : goal.invariant-loop-place
invariant-loop-place l = AreAllGiven l.fn.session (words_given l.self.owners.now l.self.me l.self.size l.self.bytes.now l.place) l.session
