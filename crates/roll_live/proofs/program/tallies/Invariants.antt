use Rattle.std.proofs.Common.{◌≡◌, vec_len}
use Rattle.roll_live.proofs.program.tallies.Given as goal

abbrev pub invariant-loop : goal.invariant-loop
invariant-loop l = vec_len l.games ≡ l.counter
