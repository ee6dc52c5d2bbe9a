use Rattle.std.proofs.Common.{◌≡◌, ◌++◌, drop, map}
use Rattle.roll_session.specs.Headline.{words_of}
use Rattle.prog_observer.specs.Hearing.{heard_at}
use Rattle.prog_observer.proofs.hearing.Hearing.hear.Given as goal

abbrev pub invariant-loop-frame : goal.invariant-loop-frame
invariant-loop-frame g l = record {
  player : l.self.player ≡ l.fn.self.player;
  words : l.self.words.items ++ map (heard_at l.fn.at) (drop l.frame (words_of l.session l.fn.self.player))
      ≡ l.fn.self.words.items ++ map (heard_at l.fn.at) (drop l.first (words_of l.session l.fn.self.player));
}
