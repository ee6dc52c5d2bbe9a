use Rattle.prog_picture.specs.Bars.{AddsNoBar}
use Rattle.prog_picture.proofs.heading.push_title.Given as goal

abbrev pub invariant-loop-line : goal.invariant-loop-line
invariant-loop-line l = AddsNoBar l.fn.out l.out
