use Rattle.std.proofs.Common.{arith}
use Rattle.roll_cert.proofs.Noted.{noted-more, noted-past}
use Rattle.roll_cert.proofs.checking.Named.insert.Goals as goal

pub returns-then-state-lt-TREE_LIMIT : goal.returns-then-state-lt-TREE_LIMIT
returns-then-state-lt-TREE_LIMIT c = λ entries noted. noted-more c.args.self.now.first entries c.args.entry noted

pub returns-else-state-lt-TREE_LIMIT : goal.returns-else-state-lt-TREE_LIMIT
returns-else-state-lt-TREE_LIMIT c = λ entries noted. noted-past c.args.self.now.first entries c.args.entry noted (omega arith)
