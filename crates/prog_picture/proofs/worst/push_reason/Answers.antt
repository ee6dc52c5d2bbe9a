use Rattle.std.proofs.Common.{rules}
use Rattle.prog_picture.proofs.Bare.{bare}
use Rattle.prog_picture.proofs.worst.push_reason.Goals as goal

pub returns-in-Word : goal.returns-in-Word
returns-in-Word c = search (rules, bare)

pub returns-in-Leaving : goal.returns-in-Leaving
returns-in-Leaving c = search (rules, bare)

pub returns-in-Nothing : goal.returns-in-Nothing
returns-in-Nothing c = search (rules, bare)
