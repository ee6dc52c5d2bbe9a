use Rattle.std.proofs.Common.{arith}
use Rattle.roll_inputs.proofs.Recorded.{length_seen}
use Rattle.roll_inputs.proofs.record.Record.len.Goals as goal

pub returns : goal.returns
returns c = omega (arith, length_seen c.self.inside c.args.self.now c.self.view_is)
