use Rattle.std.proofs.Common.{length}
use Rattle.prog_scripts.specs.Headers.{setup_of}
use Rattle.prog_scripts.proofs.Outlined.{IsReadTo}
use Rattle.prog_scripts.proofs.script.outline.Given as goal

abbrev pub invariant-loop-rest : goal.invariant-loop-rest
invariant-loop-rest l = IsReadTo (setup_of l.header) l.commands l.rest l.line

abbrev pub decreases-loop-rest : goal.decreases-loop-rest
decreases-loop-rest l = length l.rest
