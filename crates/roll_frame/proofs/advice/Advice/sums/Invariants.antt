use Rattle.roll_frame.proofs.Sums.{IsSummed}
use Rattle.roll_frame.proofs.advice.Advice.sums.Given as goal

abbrev pub invariant-loop-local : goal.invariant-loop-local
invariant-loop-local l = IsSummed l.self l.local-iterator l.local_sum l.remote_sum
