use Rattle.std.proofs.Common.{◌≡◌, ◌≤◌, ◌∙◌, ℕ, List, length, min, ap, refl, arith}
use Rattle.std.proofs.lemmas.List.{drop_all, take_all}
use Rattle.roll_relay.specs.Told.{roomier, told}
use Rattle.roll_relay.specs.Turns.{lessened}
use Rattle.roll_inputs.specs.declared.remote_word.RemoteWord.{RemoteWord}
use Rattle.roll_match.proofs.one.Match.tell_all.Goals as goal

pub returns-in-Ok-clause-told : goal.returns-in-Ok-clause-told
returns-in-Ok-clause-told g c =
    let words = c.args.self.now.held.words.items in
    let count : ℕ = length c.waiting-count.result.now in
    let same : count ≡ length words = ap (λ (ws : List RemoteWord). length ws) c.waiting-count.ensures in
    let most : length words ≤ count = omega (arith, same) in
    let all : min count (length words) ≡ length words = omega (arith, same) in (
      c.in-Ok.ensures.handed ∙ ap (told (roomier (length words) (g.S.Networked.seen c.args.session.now))) (take_all count words most),
      c.in-Ok.ensures.rest ∙ drop_all count words most,
      c.in-Ok.ensures.waited ∙ ap (λ (n : ℕ). lessened n c.args.self.now.held.waited.items) all,
      c.in-Ok.ensures.turns,
      refl,
    )
