use Rattle.std.proofs.Common.{Some, refl, arith}
use Rattle.fazgrond_c.proofs.peer_calls.send_more.Goals as goal

pub returns-clause-sent : goal.returns-clause-sent
returns-clause-sent c = record {
  short = λ less. absurd (omega (arith, less));
  filled = λ room. record {
    bytes = Some c.in-Some.bytes.items;
    next = c.in-Some.ensures;
    written = (refl, (c.write.ensures.bytes, c.write.ensures.size));
  };
}
