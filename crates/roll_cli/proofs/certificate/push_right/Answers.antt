use Rattle.std.proofs.Common.{arith}
use Rattle.roll_cli.proofs.Starts.{start_within}
use Rattle.roll_cli.proofs.certificate.push_right.Goals as goal

pub overflow_sub-rerun : goal.overflow_sub-rerun
overflow_sub-rerun c = omega (arith, start_within c.args.claim.now c.args.claim.now.kept c.requires.start, c.from-from.ensures, c.from.ensures, c.len.ensures)
