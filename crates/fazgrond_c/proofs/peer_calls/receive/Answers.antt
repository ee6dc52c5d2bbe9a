use Rattle.std.proofs.Common.{◌≡◌, rules, w32, inl, inr, refl, subst, ap, sym, ◌∙◌, ℕ, Option}
use Rattle.std.specs.Prelude.{FitsSigned, pos}
use Rattle.std.proofs.Common.{of_z, to_z}
use Rattle.std.proofs.lemmas.Int.{to_z-of_z}
use Rattle.roll_session.specs.Gameless.{Bare}
use Rattle.roll_chain.specs.declared.epochs.Epochs.{Epochs}
use Rattle.fazgrond_c.specs.Epochs.{IsHeardBefore}
use Rattle.fazgrond_c.proofs.peer_calls.receive.Goals as goal

pub returns-then-code-eq-NOT_SEALED : goal.returns-then-code-eq-NOT_SEALED
returns-then-code-eq-NOT_SEALED c =
    let fits : FitsSigned w32 c.hear_before.result = search rules in
    let here : c.receive_now-code.result ≡ pos 301 =
    sym (to_z-of_z w32 c.receive_now-code.result (search rules)) ∙ ap (to_z w32) c.if-code-eq-NOT_SEALED.true in
    rw to_z-of_z
    (record {
      here = c.receive_now-code.result;
      heard = c.receive_now-code.new.network;
      received = c.receive_now-code.ensures.received;
      epochs = c.receive_now-code.ensures.epochs;
      rest = c.hear_before.ensures.rest;
      past = inl (
        here,
        subst (λ (e : Option (Epochs (Bare ℕ))). IsHeardBefore c.args.bytes.now c.args.now e c.hear_before.new.network.epochs c.hear_before.result)
            c.receive_now-code.ensures.epochs c.hear_before.ensures.heard,
      );
    })

pub returns-else-code-eq-NOT_SEALED : goal.returns-else-code-eq-NOT_SEALED
returns-else-code-eq-NOT_SEALED c =
    let fits : FitsSigned w32 c.receive_now-code.result = search rules in
    rw to_z-of_z
    (record {
      here = c.receive_now-code.result;
      heard = c.receive_now-code.new.network;
      received = c.receive_now-code.ensures.received;
      epochs = c.receive_now-code.ensures.epochs;
      rest = refl;
      past = inr (λ e. c.if-code-eq-NOT_SEALED.false (ap (of_z w32) e), (c.receive_now-code.ensures.epochs, refl));
    })
