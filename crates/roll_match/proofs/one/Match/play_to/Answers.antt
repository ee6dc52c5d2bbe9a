use Rattle.std.proofs.Common.{ℕ, List, ap, refl, sym, Option, Ok, Err}
use Rattle.std.specs.Prelude.{Result}
use Rattle.arrayvec.specs.declared.array_vec.ArrayVec.{ArrayVec}
use Rattle.roll_relay.specs.Relayed.{bytes_of}
use Rattle.roll_peer.specs.declared.refusal.OtherSession.{OtherSession}
use Rattle.roll_match.specs.GoingOut.{sent_of}
use Rattle.roll_match.proofs.one.Match.play_to.Goals as goal

abbrev Said : Type 0
Said = Result (Option (ArrayVec ℕ 1200 (Unit {0}))) OtherSession

abbrev text_of : Said → Result (Option (List ℕ)) OtherSession
text_of said = bytes_of (λ bytes. bytes.items) said

pub returns-in-Ok-Ok-clause-sent : goal.returns-in-Ok-Ok-clause-sent
returns-in-Ok-Ok-clause-sent g c = record {
  said = Ok (text_of c.in-Ok-Ok.field-0);
  gives = (
    c.in-Ok-Ok.ensures.sent,
    (λ k. record c.args.self.now { peer = c.send.new.peer; held = c.send.ensures.same k; relay = c.send.new.relay }),
    c.in-Ok-Ok.ensures.session,
  );
  sent_is = ap (λ (said : Said). sent_of (text_of said)) (sym c.in-Ok-Ok.field-0-is);
}

pub returns-in-Ok-Err-clause-sent : goal.returns-in-Ok-Err-clause-sent
returns-in-Ok-Err-clause-sent g c = record {
  said = Ok (text_of c.in-Ok-Err.field-0);
  gives = (
    c.in-Ok-Err.ensures.sent,
    (λ k. record c.args.self.now { peer = c.send.new.peer; held = c.send.ensures.same k; relay = c.send.new.relay }),
    c.in-Ok-Err.ensures.session,
  );
  sent_is = ap (λ (said : Said). sent_of (text_of said)) (sym c.in-Ok-Err.field-0-is);
}

pub returns-in-Err-clause-sent : goal.returns-in-Err-clause-sent
returns-in-Err-clause-sent g c = record {
  said = Err c.in-Err.field-0;
  gives = (
    c.in-Err.ensures.refused,
    (λ k. record c.args.self.now {
      peer = c.in-Err.ensures.unchanged.1 k;
      held = c.send.ensures.same k;
      relay = c.in-Err.ensures.unchanged.2 k;
    }),
    ap g.S.Networked.seen c.in-Err.ensures.unchanged.0,
  );
  sent_is = refl;
}
