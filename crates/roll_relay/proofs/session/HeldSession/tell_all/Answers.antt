use Rattle.std.proofs.Common.{◌≡◌, ◌∙◌, List, [], ap, arith, length, refl, subst, sym}
use Rattle.roll_inputs.specs.declared.remote_word.RemoteWord.{RemoteWord}
use Rattle.roll_session.specs.Seen.{Seen}
use Rattle.roll_relay.specs.Told.{told, Fits}
use Rattle.roll_relay.proofs.Told.{told_stays}
use Rattle.roll_relay.proofs.Waiting.{told_waits}
use Rattle.roll_relay.proofs.session.HeldSession.tell_all.Goals as goal

pub invariant_of-self : goal.invariant_of-self
invariant_of-self g c =
    let old = c.args.self.now in
    let s = g.S.Networked.seen old.session.now in
    let words = old.held.now.words.items in
    let none : c.replace-words.new.dest.items ≡ [] =
    ap (λ v. v.items) c.replace-words.ensures.after ∙ c.new.ensures in
    let all : c.as_slice.result.now ≡ words = c.as_slice.ensures.value ∙ ap (λ v. v.items) c.replace-words.ensures.value in
    let later : g.S.Networked.seen c.tell.new.session ≡ told s words =
    c.tell.ensures.told ∙ ap (told s) all in
    let kept = told_stays s words in
    let reserved = ap (λ (x : Seen). x.reserved) later ∙ kept.reserved in
    let logged = ap (λ (x : Seen). x.core.logged) later ∙ kept.logged in
    let most = ap (λ (x : Seen). x.settings.log) later ∙ ap (λ x. x.log) kept.settings in
    let many = ap (λ (ws : List RemoteWord). length ws) none in
    record {
      fits = subst (λ (ws : List RemoteWord). Fits (g.S.Networked.seen c.tell.new.session) ws) (sym none) refl;
      room = omega (arith, old.room, reserved, many);
      log = omega (arith, old.log, logged, most, many);
    }

pub returns-clause-waits : goal.returns-clause-waits
returns-clause-waits g c =
    let old = c.args.self.now in
    let s = g.S.Networked.seen old.session.now in
    let words = old.held.now.words.items in
    let all : c.as_slice.result.now ≡ words = c.as_slice.ensures.value ∙ ap (λ v. v.items) c.replace-words.ensures.value in
    told_waits s (g.S.Networked.seen c.tell.new.session) old.held.now _ (c.tell.ensures.told ∙ ap (told s) all) refl
    (ap (λ v. v.items) c.replace-words.ensures.after ∙ c.new.ensures) c.new-self.ensures
