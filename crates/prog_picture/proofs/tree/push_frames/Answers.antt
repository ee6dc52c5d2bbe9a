use Rattle.std.proofs.Common.{rules}
use Rattle.prog_picture.proofs.Bare.{bare}
use Rattle.prog_picture.proofs.tree.push_frames.Goals as goal

pub loop-depth-preserved : goal.loop-depth-preserved
loop-depth-preserved c = search (rules, bare)
