use Rattle.std.proofs.Common.{◌≡◌}
use Rattle.roll_member.proofs.Joining.{with_count}
use Rattle.roll_member.proofs.join.give_own.Given as goal

abbrev pub invariant-loop : goal.invariant-loop
invariant-loop g l = l.mesh ≡ with_count l.fn.mesh l.place l.counter
