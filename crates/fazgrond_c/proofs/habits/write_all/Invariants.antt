use Rattle.std.proofs.Common.{◌≡◌, ◌++◌, drop, take, map}
use Rattle.fazgrond_c.specs.Habits.{foreseen_out}
use Rattle.fazgrond_c.proofs.habits.write_all.Given as goal

abbrev pub invariant-loop-place : goal.invariant-loop-place
invariant-loop-place l = l.out ≡ map foreseen_out (take l.place l.guesses) ++ drop l.place l.initial.out
