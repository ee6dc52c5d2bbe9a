use Rattle.std.proofs.Common.{Some, refl, arith}
use Rattle.fazgrond_c.proofs.peer_calls.bye.Goals as goal

pub returns-in-Some : goal.returns-in-Some
returns-in-Some c = record {
  short = λ less. absurd (omega (arith, less));
  filled = λ room. record {
    bytes = Some c.in-Some.bytes.items;
    said = c.in-Some.ensures.said;
    rest = refl;
    none = c.in-Some.ensures.none;
    written = (refl, (c.write.ensures.bytes, c.write.ensures.size));
  };
}
