use Rattle.std.proofs.Common.{◌∙◌, ◌-◌, List, ap}
use Rattle.std.specs.Prelude.{slice_get}
use Rattle.roll_inputs.specs.declared.remote_word.RemoteWord.{RemoteWord}
use Rattle.roll_relay.specs.Told.{words_among}
use Rattle.roll_relay.proofs.Seeing.{no_word, word_after, word_before}
use Rattle.roll_relay.proofs.session.HeldSessionNetworked.confirmed_word.Goals as goal

pub returns-in_err-count : goal.returns-in_err-count
returns-in_err-count g c =
    let s = g.S.Networked.seen c.args.self.now.session.now in
    let words = c.args.self.now.held.now.words.items in
    c.from_residual.ensures ∙ no_word s words c.args.player c.args.frame c.in_err-count.ensures

pub returns-then-frame-count : goal.returns-then-frame-count
returns-then-frame-count g c =
    let s = g.S.Networked.seen c.args.self.now.session.now in
    let words = c.args.self.now.held.now.words.items in
    c.confirmed_word.ensures
    ∙ word_before s words c.args.player c.in_ok-count.count c.args.frame c.in_ok-count.ensures c.if-frame-count.true

pub returns-else-frame-count : goal.returns-else-frame-count
returns-else-frame-count g c =
    let s = g.S.Networked.seen c.args.self.now.session.now in
    let words = c.args.self.now.held.now.words.items in
    c.word_among.ensures
    ∙ ap (λ (ws : List RemoteWord). slice_get (words_among ws c.args.player) (c.args.frame - c.in_ok-count.count)) c.as_slice.ensures.value
    ∙ word_after s words c.args.player c.in_ok-count.count c.args.frame c.in_ok-count.ensures c.if-frame-count.false
