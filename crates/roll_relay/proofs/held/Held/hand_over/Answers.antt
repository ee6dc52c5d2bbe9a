use Rattle.std.proofs.Common.{◌≡◌, ◌∙◌, List, ap, drop, length, min, refl, subst, sym, take}
use Rattle.roll_inputs.specs.declared.remote_word.RemoteWord.{RemoteWord}
use Rattle.roll_session.specs.Seen.{Seen}
use Rattle.roll_relay.specs.Told.{roomier, told, Fits}
use Rattle.roll_relay.specs.Turns.{lessened}
use Rattle.roll_relay.proofs.Ahead.{fits_take, take_few}
use Rattle.roll_relay.proofs.held.Held.hand_over.Goals as goal

pub tell-requires-clause-fits : goal.tell-requires-clause-fits
tell-requires-clause-fits g c =
    let later = g.S.Networked.seen c.make_room.new.session in
    subst (λ (ws : List RemoteWord). Fits later (take c.min-count.result ws)) (sym c.deref.ensures.0)
    (fits_take later c.args.self.now.words.items c.min-count.result c.in-Ok.ensures.fits)

pub returns-in-Ok-clause-handed : goal.returns-in-Ok-clause-handed
returns-in-Ok-clause-handed g c =
    let s = g.S.Networked.seen c.args.session.now in
    let later = g.S.Networked.seen c.make_room.new.session in
    let words = c.args.self.now.words.items in
    let few : take c.min-count.result words ≡ take c.args.count words =
    ap (λ n. take n words) (c.min-count.ensures ∙ ap (min c.args.count) c.len.ensures.value) ∙ take_few c.args.count words in
    c.tell.ensures.told ∙ ap (λ (ws : List RemoteWord). told later (take c.min-count.result ws)) c.deref.ensures.0 ∙ ap (told later) few
    ∙ ap (λ (x : Seen). told x (take c.args.count words)) c.in-Ok.ensures.made

pub returns-in-Ok-clause-hands : goal.returns-in-Ok-clause-hands
returns-in-Ok-clause-hands g c =
    let s = g.S.Networked.seen c.args.session.now in
    let later = g.S.Networked.seen c.make_room.new.session in
    let words = c.args.self.now.words.items in
    let many : c.min-count.result ≡ min c.args.count (length words) =
    c.min-count.ensures ∙ ap (min c.args.count) c.len.ensures.value in
    record {
      told_are = c.tell.ensures.told ∙ ap (λ (ws : List RemoteWord). told later (take c.min-count.result ws)) c.deref.ensures.0
          ∙ ap (λ (x : Seen). told x (take c.min-count.result words)) c.in-Ok.ensures.made
          ∙ ap (λ n. told (roomier (length words) s) (take n words)) many;
      rest = c.rest_of-self.ensures ∙ ap (λ n. drop n words) many;
      waited_is = c.less-self.ensures ∙ ap (λ n. lessened n c.args.self.now.waited.items) many;
      turns_are = refl;
    }
