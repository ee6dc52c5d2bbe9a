use Rattle.std.proofs.Common.{rules}
use Rattle.prog_picture.proofs.Bare.{bare}
use Rattle.prog_picture.proofs.drawing.push_player.Goals as goal

pub returns-then-not-lane : goal.returns-then-not-lane
returns-then-not-lane c = search (rules, bare)

pub returns : goal.returns
returns c = search (rules, bare)
