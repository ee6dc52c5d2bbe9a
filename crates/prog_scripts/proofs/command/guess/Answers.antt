use Rattle.std.proofs.Common.{arith}
use Rattle.std.specs.Fmt.{decimal}
use Rattle.prog_scripts.proofs.Spelled.{no_guess}
use Rattle.prog_scripts.proofs.command.guess.Goals as goal

pub returns-then-len-gt-PATH_LIMIT : goal.returns-then-len-gt-PATH_LIMIT
returns-then-len-gt-PATH_LIMIT c =
    let read = rw c.in-Some.is at c.in_ok-words.ensures in
    no_guess (decimal c.args.player) (decimal c.args.until) c.args.words.now c.in-Some.words.items read.0 read.1 (omega (arith, c.len.ensures, c.if-len-gt-PATH_LIMIT.true))
