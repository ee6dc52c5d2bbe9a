use Rattle.std.proofs.Common.{arith, refl, None, Ok}
use Rattle.fazgrond_c.proofs.epoch_calls.send_before.Goals as goal

pub returns-in-None : goal.returns-in-None
returns-in-None c = record {
  short = λ l. absurd (omega (arith, l, c.if-out-lt-DATAGRAM_LIMIT.false));
  filled = λ l. record { result = Ok None; sent = rw (c.in-None.is) (refl, refl); written = (refl, (refl, refl)); rest = refl };
}
