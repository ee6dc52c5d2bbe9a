use Rattle.std.proofs.Common.{arith}
use Rattle.std.proofs.lemmas.Int.{to_z-of_z}
use Rattle.roll_frame.proofs.Windows.{IsWindow-noted}
use Rattle.roll_frame.proofs.advice.Advice.note.Goals as goal

pub invariant_of-self : goal.invariant_of-self
invariant_of-self c =
    let w = IsWindow-noted c.self.inside.pairs.items c.args.local c.args.remote c.self.invariant.1 in
    grind (arith, to_z-of_z)
