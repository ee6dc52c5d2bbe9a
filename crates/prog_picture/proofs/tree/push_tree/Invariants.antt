use Rattle.prog_picture.specs.Bars.{AddsNoBar}
use Rattle.prog_picture.proofs.tree.push_tree.Given as goal

abbrev pub invariant-loop-node : goal.invariant-loop-node
invariant-loop-node l = AddsNoBar l.fn.out l.out
