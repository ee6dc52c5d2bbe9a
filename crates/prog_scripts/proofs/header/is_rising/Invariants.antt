use Rattle.std.proofs.Common.{◌↔◌, drop}
use Rattle.prog_scripts.specs.Headers.{IsRising}
use Rattle.prog_scripts.proofs.header.is_rising.Given as goal

abbrev pub invariant-loop-n : goal.invariant-loop-n
invariant-loop-n l = IsRising l.last (drop l.n-index l.numbers) ↔ IsRising 0 l.numbers
