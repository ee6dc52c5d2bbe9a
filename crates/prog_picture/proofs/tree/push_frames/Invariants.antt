use Rattle.prog_picture.specs.Bars.{AddsNoBar}
use Rattle.prog_picture.proofs.tree.push_frames.Given as goal

abbrev pub invariant-loop-depth : goal.invariant-loop-depth
invariant-loop-depth l = AddsNoBar l.fn.out l.out
