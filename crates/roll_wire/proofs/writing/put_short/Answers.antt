use Rattle.std.proofs.Common.{arith}
use Rattle.roll_wire.proofs.Digits.{limit_of_short}
use Rattle.roll_wire.proofs.writing.put_short.Goals as goal

pub put_digits-requires-clause-fits : goal.put_digits-requires-clause-fits
put_digits-requires-clause-fits c = omega (arith, limit_of_short, c.ranges.n.fits)
