use Rattle.std.proofs.Common.{Ok, Err, refl}
use Rattle.fazgrond_c.proofs.peer_calls.note_at_once.Goals as goal

pub returns-in-Ok : goal.returns-in-Ok
returns-in-Ok c = record {
  result = Ok c.in-Ok.field-0;
  noted_is = c.in-Ok.ensures.noted;
  accepted = c.in-Ok.ensures.accepted;
  other = tt;
  unchanged = tt;
  code_is = refl;
}

pub returns-in-Err : goal.returns-in-Err
returns-in-Err c = record {
  result = Err c.in-Err.field-0;
  noted_is = tt;
  accepted = tt;
  other = c.in-Err.ensures.other;
  unchanged = c.in-Err.ensures.unchanged;
  code_is = refl;
}
