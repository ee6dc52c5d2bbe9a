use Rattle.std.proofs.Common.{◌∷◌, [], ap, arith, subst, sym}
use Rattle.roll_relay.specs.Told.{told, Fits}
use Rattle.roll_relay.proofs.Told.{fits_more, fits_one, room_for_one, told_stays}
use Rattle.roll_relay.proofs.session.HeldSession.hold.Goals as goal

pub invariant_of-self : goal.invariant_of-self
invariant_of-self g c =
    let old = c.args.self.now in
    let s = g.S.Networked.seen old.session.now in
    let words = old.held.now.words.items in
    let kept = told_stays s words in
    let one = room_for_one (told s words) c.args.word c.requires.takes in
    record {
      fits = subst (Fits s) (sym c.push.ensures.items)
          (fits_more s words (c.args.word ∷ []) old.fits (fits_one (told s words) c.args.word c.requires.takes));
      room = omega (arith, old.room, c.push.ensures.len, c.saturating_sub-self.ensures, kept.reserved, c.requires.some);
      log = omega (arith, old.log, c.push.ensures.len, c.saturating_sub-self.ensures, kept.logged, one, ap (λ x. x.log) kept.settings);
    }
