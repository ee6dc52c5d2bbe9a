use Rattle.std.proofs.Common.{◌≡◌}
use Rattle.roll_member.specs.Joined.{count_of, fewest}
use Rattle.roll_member.proofs.words.fewest.Given as goal

abbrev pub invariant-loop-other : goal.invariant-loop-other
invariant-loop-other g l = l.least ≡ fewest (count_of (g.S.Networked.seen l.session)) l.place l.other
