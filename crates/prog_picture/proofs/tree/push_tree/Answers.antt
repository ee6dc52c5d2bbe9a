use Rattle.std.proofs.Common.{rules}
use Rattle.prog_picture.proofs.Bare.{bare}
use Rattle.prog_picture.proofs.tree.push_tree.Goals as goal

pub loop-node-init : goal.loop-node-init
loop-node-init c = search (rules, bare)

pub returns : goal.returns
returns c = search (rules, bare)
