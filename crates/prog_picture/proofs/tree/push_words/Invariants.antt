use Rattle.prog_picture.specs.Bars.{AddsNoBar}
use Rattle.prog_picture.proofs.tree.push_words.Given as goal

abbrev pub invariant-loop-place : goal.invariant-loop-place
invariant-loop-place l = AddsNoBar l.fn.out l.out
