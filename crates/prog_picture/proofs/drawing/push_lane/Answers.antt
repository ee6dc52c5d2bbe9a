use Rattle.std.proofs.Common.{rules}
use Rattle.prog_picture.proofs.Bare.{bare}
use Rattle.prog_picture.proofs.drawing.push_lane.Goals as goal

pub loop-run-init : goal.loop-run-init
loop-run-init c = search (rules, bare)

pub returns : goal.returns
returns c = search (rules, bare)
