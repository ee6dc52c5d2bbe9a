use Rattle.roll_frame.proofs.Packing.{bits_in}
use Rattle.roll_frame.proofs.row.Row.gone_bits.Goals as goal

pub returns : goal.returns
returns c = bits_in c.self.inside c.args.self.now c.self.invariant c.self.view_is
