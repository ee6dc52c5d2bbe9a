use Rattle.std.proofs.Common.{rules, w32, Ok, Err, ap, refl}
use Rattle.std.specs.Prelude.{FitsSigned}
use Rattle.std.proofs.lemmas.Int.{to_z-of_z}
use Rattle.roll_relay.specs.Relayed.{bytes_of}
use Rattle.roll_requests.specs.Asked.{Asked}
use Rattle.fazgrond_c.proofs.peer_calls.send_now.Goals as goal

pub returns-in-Ok : goal.returns-in-Ok
returns-in-Ok c =
    let fits : FitsSigned w32 c.write_sent.result = search rules in
    rw to_z-of_z
    (record {
      result = Ok (bytes_of (λ bytes. bytes.items) c.in-Ok.said);
      sent = c.in-Ok.ensures.sent;
      written = c.write_sent.ensures;
      refused = tt;
      unchanged = tt;
      held = c.in-Ok.ensures.same;
      epochs = refl;
      room = c.in-Ok.ensures.session;
      untouched = λ none. ap (λ (s : Asked). record c.args.live.now { session = s }) (c.in-Ok.ensures.untouched none);
      rest = refl;
      keeps = c.in-Ok.ensures.keeps;
    })

pub returns-in-Err : goal.returns-in-Err
returns-in-Err c =
    let fits : FitsSigned w32 c.code_of_fault.result = search rules in
    let same = c.in-Err.ensures.same in
    let kept = c.in-Err.ensures.unchanged in
    rw to_z-of_z
    (record {
      result = Err c.in-Err.why;
      sent = tt;
      written = tt;
      refused = c.in-Err.ensures.refused;
      unchanged = record {
        code_is = c.code_of_fault.ensures;
        kept = λ i. (record c.args.network.now { peer = kept.1 i; held = same i; relay = kept.2 i }, record c.args.live.now { session = kept.0 i });
        unwritten = refl;
        same = refl;
      };
      held = same;
      epochs = refl;
      room = tt;
      untouched = λ none. ap (λ (s : Asked). record c.args.live.now { session = s }) kept.0;
      rest = refl;
      keeps = c.in-Err.ensures.keeps;
    })
