use Rattle.std.proofs.Common.{take}
use Rattle.roll_relay.proofs.Fronts.{counts, IsLeast}
use Rattle.roll_relay.proofs.front.front.Given as goal

abbrev pub invariant-loop-place : goal.invariant-loop-place
invariant-loop-place g l = IsLeast l.least (counts (take l.place (g.S.Networked.seen l.session).core.players))
