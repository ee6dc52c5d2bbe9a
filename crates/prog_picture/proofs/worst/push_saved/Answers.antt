use Rattle.std.proofs.Common.{rules}
use Rattle.prog_picture.proofs.Bare.{bare}
use Rattle.prog_picture.proofs.worst.push_saved.Goals as goal

pub returns-then-rerun-eq0 : goal.returns-then-rerun-eq0
returns-then-rerun-eq0 c = search (rules, bare)

pub returns : goal.returns
returns c = search (rules, bare)
