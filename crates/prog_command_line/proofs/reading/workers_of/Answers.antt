use Rattle.std.proofs.Common.{arith}
use Rattle.prog_command_line.proofs.NumberLemmas.{few_workers, no_workers}
use Rattle.prog_command_line.proofs.reading.workers_of.Goals as goal

pub returns-then-workers-le4-clause-named : goal.returns-then-workers-le4-clause-named
returns-then-workers-le4-clause-named c = few_workers c.byte_of-workers.result _ c.byte_of-workers.ensures (omega arith) (omega arith)

pub returns-else-workers-ge1-clause-named : goal.returns-else-workers-ge1-clause-named
returns-else-workers-ge1-clause-named c = no_workers c.byte_of-workers.result _ c.byte_of-workers.ensures (λ both. omega arith)
