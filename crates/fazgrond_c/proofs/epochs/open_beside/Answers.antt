use Rattle.std.proofs.Common.{◌≡◌, ◌∙◌, rules, w32, inl, inr, refl, sym, subst, ap, Some}
use Rattle.std.specs.Prelude.{FitsSigned, pos}
use Rattle.std.proofs.lemmas.Int.{to_z-of_z}
use Rattle.roll_frame.specs.declared.settings.Settings.{Settings}
use Rattle.roll_peer.specs.Peered.{Peered}
use Rattle.roll_relay.specs.Relaying.{opened_beside}
use Rattle.roll_chain.specs.Chains.{settings_of}
use Rattle.fazgrond_c.specs.Lasting.{chain_in, is_played, IsLasting, IsOpenedWithout}
use Rattle.fazgrond_c.proofs.Openings.{not_opened}
use Rattle.fazgrond_c.proofs.epochs.open_beside.Goals as goal

not_open : pos 107 ≡ pos 0 → ⊥
not_open e = cc

pub returns-in_default-open : goal.returns-in_default-open
returns-in_default-open c =
    let fits : FitsSigned w32 c.code-in_default-open.result = search rules in
    let short : c.code-in_default-open.result ≡ pos 107 = c.code-in_default-open.ensures in
    rw to_z-of_z
    (record {
      opens = record { opened = λ e. absurd (not_open (sym short ∙ e)); refused = λ n. refl };
      why = λ n. inr (inr (inr (inr short)));
    })

pub returns-in-Err : goal.returns-in-Err
returns-in-Err c =
    let fits : FitsSigned w32 c.code_beside.result = search rules in
    let failed : c.code_beside.result ≡ pos 0 → ⊥ = λ e. not_opened (settings_of (chain_in c.in-Some-Some.base c.in-Some-Some.terms c.args.given.now.comers c.args.live.now.session.seen)) c.in-Err.why
    (sym c.code_beside.ensures ∙ e) in
    rw to_z-of_z
    (record {
      opens = record { opened = λ e. absurd (failed e); refused = λ n. refl };
      why = λ n. inr (inr (inr (inl (record {
        base = c.in-Some-Some.base;
        terms = c.in-Some-Some.terms;
        are = record { matched = c.in-Some-Some.ensures.matched; terms_are = c.in-Some-Some.ensures'.given };
        fault = c.in-Err.why;
        why = c.in-Err.ensures.refused;
        code_is = c.code_beside.ensures;
      }))));
    })

pub returns : goal.returns
returns c =
    let fits : FitsSigned w32 c.open_in.result = search rules in
    let terms = c.in-Some-Some.terms in
    let base = c.in-Some-Some.base in
    let s = c.args.live.now.session.seen in
    let chain = chain_in base terms c.args.given.now.comers s in
    let lasting : IsLasting c.args.given.now c.args.epoch.now s c.new.result = record {
      base = base;
      terms = terms;
      are = record { matched = c.in-Some-Some.ensures.matched; terms_are = c.in-Some-Some.ensures'.given };
      even = sym c.are_even.ensures ∙ c.if-not-are_even.false;
      played = sym (c.is_played.ensures ∙ ap (λ (x : Settings). is_played terms x base.me) c.settings-2.ensures) ∙ c.if-not-is_played.false;
      accepted = c.in-Ok.ensures.accepted;
      drawn = c.in-Ok.ensures.drawn;
      numbered = c.in-Ok.ensures.numbered;
      opened = subst (λ (p : Peered). IsOpenedWithout chain s p) (sym c.new.ensures.peer) c.in-Ok.ensures.opened;
      held = c.new.ensures.held;
      carrying = c.new.ensures.relay ∙ c.in-Ok-open.ensures ∙ ap opened_beside (sym c.new.ensures.peer);
      epochs = c.new.ensures.epochs ∙ ap Some c.in-Ok.ensures.epochs;
    } in
    rw to_z-of_z
    (record {
      opens = record { opened = λ e. rw (c.open_in.ensures.opened e) lasting; refused = λ n. (c.open_in.ensures.refused n).1 };
      why = λ n. inr (inr (inr (inr (c.open_in.ensures.refused n).0)));
    })
