use Rattle.std.proofs.Common.{◌≡◌, ◌∙◌, arith, sym, to_z, of_z, w32}
use Rattle.std.proofs.lemmas.Int.{ints, to_z-of_z}
use Rattle.fazgrond_c.proofs.sessions.fazgrond_open.Goals as goal

pub returns-clause-opened : goal.returns-clause-opened
returns-clause-opened c =
    let same : to_z w32 (of_z w32 c.open_in.result) ≡ c.open_in.result = to_z-of_z w32 c.open_in.result (omega (arith, ints, c.open_in.type_inv)) in
    record {
      opened = λ ok. rw (c.open_in.ensures.opened (sym same ∙ ok)) (record {
        settings = c.in-Some.settings;
        are_given = c.in-Some.ensures.given;
        session = c.in-Ok.ensures.session;
        advice = c.in-Ok.ensures.advice;
        closing = c.in-Ok.ensures.closing;
        first_job = c.in-Ok.ensures.first_job;
        network = c.in-Ok.ensures.network;
      });
      refused = λ no. (c.open_in.ensures.refused (λ it. no (same ∙ it))).1;
    }
