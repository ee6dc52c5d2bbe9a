use Rattle.std.proofs.Common.{arith}
use Rattle.roll_chain.proofs.Bits.{eight}
use Rattle.roll_chain.proofs.seam.local_bits.Goals as goal

pub returns : goal.returns
returns c =
    rw (c.four_bits-low.ensures.number, c.four_bits-high.ensures.number) (eight c.args.owners.now c.args.me (omega arith))
