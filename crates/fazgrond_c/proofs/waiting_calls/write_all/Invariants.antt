use Rattle.std.proofs.Common.{◌≡◌, ◌++◌, drop, take, map}
use Rattle.fazgrond_c.specs.Waiting.{word_out}
use Rattle.fazgrond_c.proofs.waiting_calls.write_all.Given as goal

abbrev pub invariant-loop-place : goal.invariant-loop-place
invariant-loop-place l = l.out ≡ map word_out (take l.place l.words) ++ drop l.place l.initial.out
