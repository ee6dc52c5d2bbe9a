use Rattle.roll_frame.proofs.Packing.{words_in}
use Rattle.roll_frame.proofs.row.Row.words.Goals as goal

pub returns : goal.returns
returns c = rw c.from.ensures (words_in c.self.inside c.args.self.now c.self.invariant c.self.view_is)
