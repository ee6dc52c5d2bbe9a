use Rattle.roll_epoch.specs.Ends.{told}
use Rattle.roll_epoch.proofs.EndLaws.{Best}
use Rattle.roll_epoch.proofs.marks.Marks.end.Given as goal

abbrev pub invariant-loop-player : goal.invariant-loop-player
invariant-loop-player l = Best (told l.self l.terms l.left) l.settled l.player l.ending
