use Rattle.std.proofs.Common.{◌≡◌}
use Rattle.roll_match.specs.Pacing.{lead_of}
use Rattle.roll_match.proofs.one.Match.lead.Given as goal

abbrev pub invariant-loop-machine : goal.invariant-loop-machine
invariant-loop-machine g l = l.most ≡ lead_of l.self.peer l.machine
