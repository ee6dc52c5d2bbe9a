use Rattle.prog_picture.specs.Bars.{AddsNoBar}
use Rattle.prog_picture.proofs.page.push_axis.Given as goal

abbrev pub invariant-loop-frame : goal.invariant-loop-frame
invariant-loop-frame l = AddsNoBar l.fn.out l.out
