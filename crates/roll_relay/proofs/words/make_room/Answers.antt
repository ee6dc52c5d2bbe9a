use Rattle.std.proofs.Common.{◌≡◌, ◌∙◌, List, arith, max, sym, subst, true}
use Rattle.std.proofs.lemmas.Grind.{common_steps}
use Rattle.roll_inputs.specs.declared.remote_word.RemoteWord.{RemoteWord}
use Rattle.roll_session.proofs.Following.{small_of}
use Rattle.roll_session.specs.Seen.{Seen}
use Rattle.roll_relay.specs.Told.{are_next, Fits}
use Rattle.roll_relay.proofs.Told.{all_fit, fits_room}
use Rattle.roll_relay.proofs.words.make_room.Goals as goal

pub returns-in-Ok-clause-fits : goal.returns-in-Ok-clause-fits
returns-in-Ok-clause-fits g c =
    let s = g.S.Networked.seen c.args.session.now in
    let words = c.args.words.now.items in
    let all : are_next s words ≡ true =
    subst (λ (ws : List RemoteWord). are_next s ws ≡ true) c.as_slice.ensures.value
    (sym c.are_next.ensures ∙ c.if-not-are_next.false) in
    subst (λ (new : Seen). Fits new words) (sym c.in-Ok.ensures.reserved)
    (fits_room s words (max s.reserved c.len.result)
    (all_fit g.S.Networked.step s words c.laws.ensures (omega (arith, c.in-Ok.ensures.fits, c.len.ensures.value)) all))

pub returns-then-is_empty-clause-log : goal.returns-then-is_empty-clause-log
returns-then-is_empty-clause-log g c =
    let small = small_of g.S.Networked.step (g.S.Networked.seen c.args.session.now) c.laws.ensures in
    grind (arith, small.logged, small.fits, c.is_empty.ensures, c.if-is_empty.true, common_steps)
