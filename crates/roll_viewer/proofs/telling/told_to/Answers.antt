use Rattle.std.proofs.Common.{◌≤◌, List, refl, subst, sym}
use Rattle.roll_mesh.specs.declared.packet.Offer.{Offer}
use Rattle.roll_session.specs.Seen.{game_of}
use Rattle.roll_wire.specs.Spelling.{count_of}
use Rattle.roll_wire.specs.declared.limits.TheConstants.{WORD_LIMIT}
use Rattle.roll_wire.proofs.Wholes.{unmarked_whole}
use Rattle.roll_viewer.specs.Telling.{offers_to, spans_to, told_to, words_in}
use Rattle.roll_viewer.proofs.Settled.{known_log, told_fits, told_whole, Known}
use Rattle.roll_viewer.proofs.telling.told_to.Goals as goal

pub words_in-requires-clause-room : goal.words_in-requires-clause-room
words_in-requires-clause-room g c =
    let s = g.S.Networked.seen c.args.session.now in
    let known : Known s.core =
    subst Known (sym c.laws.ensures.core)
    (known_log s.settings (game_of g.S.Networked.step s) s.log c.laws.ensures.log) in
    subst (λ (os : List Offer). count_of os ≤ WORD_LIMIT) (sym c.spans_to-spans.ensures)
    (told_fits s.core c.args.had known)

pub returns-clause-told : goal.returns-clause-told
unfolding told_to
returns-clause-told g c = rw (c.counts.ensures, c.words_in.ensures, c.said_once.ensures, c.spans_to-spans.ensures) refl

pub returns-clause-whole : goal.returns-clause-whole
returns-clause-whole g c =
    let s = g.S.Networked.seen c.args.session.now in
    let known : Known s.core =
    subst Known (sym c.laws.ensures.core)
    (known_log s.settings (game_of g.S.Networked.step s) s.log c.laws.ensures.log) in
    rw (c.words_in.ensures, c.said_once.ensures, c.spans_to-spans.ensures)
    (unmarked_whole (offers_to s.core c.args.had) (words_in s.core.players (spans_to s.core c.args.had))
    (told_whole s.core c.args.had known))
