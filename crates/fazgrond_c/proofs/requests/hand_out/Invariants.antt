use Rattle.std.proofs.Common.{◌≡◌, ◌++◌, drop, take, map}
use Rattle.fazgrond_c.specs.Kinds.{request_out}
use Rattle.fazgrond_c.proofs.requests.hand_out.Given as goal

abbrev pub invariant-loop-place : goal.invariant-loop-place
invariant-loop-place l = l.out ≡ map request_out (take l.place l.requests) ++ drop l.place l.initial.out
