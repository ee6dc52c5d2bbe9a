use Rattle.std.proofs.Common.{◌≡◌, ◌∙◌, ◌+◌, List, Some, ap, arith, length}
use Rattle.roll_inputs.specs.declared.remote_word.RemoteWord.{RemoteWord}
use Rattle.roll_relay.specs.Told.{as_told, words_among}
use Rattle.roll_relay.proofs.Seeing.{count_told, few_words, nobody_told}
use Rattle.roll_relay.proofs.session.HeldSessionNetworked.confirmed.Goals as goal

pub returns-in_err-count : goal.returns-in_err-count
returns-in_err-count g c =
    let s = g.S.Networked.seen c.args.self.now.session.now in
    let words = c.args.self.now.held.now.words.items in
    c.from_residual.ensures ∙ nobody_told s words c.args.player c.in_err-count.ensures

pub overflow_add-result : goal.overflow_add-result
overflow_add-result g c =
    let s = g.S.Networked.seen c.args.self.now.session.now in
    let words = c.args.self.now.held.now.words.items in
    let many : c.count_among.result ≡ length (words_among words c.args.player) =
    c.count_among.ensures.count ∙ ap (λ (ws : List RemoteWord). length (words_among ws c.args.player)) c.as_slice.ensures.value in
    let few = few_words g.S.Networked.step (as_told s words c.args.self.now.reserved) c.laws.ensures c.args.player
    (c.in_ok-count.count + length (words_among words c.args.player))
    (count_told s words c.args.player c.in_ok-count.count c.in_ok-count.ensures) in
    omega (arith, many, few)

pub returns : goal.returns
returns g c =
    let s = g.S.Networked.seen c.args.self.now.session.now in
    let words = c.args.self.now.held.now.words.items in
    let many : c.count_among.result ≡ length (words_among words c.args.player) =
    c.count_among.ensures.count ∙ ap (λ (ws : List RemoteWord). length (words_among ws c.args.player)) c.as_slice.ensures.value in
    ap (λ n. Some (c.in_ok-count.count + n)) many
    ∙ count_told s words c.args.player c.in_ok-count.count c.in_ok-count.ensures
