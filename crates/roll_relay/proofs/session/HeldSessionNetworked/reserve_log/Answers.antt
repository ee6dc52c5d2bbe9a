use Rattle.std.proofs.Common.{◌∙◌, ◌+◌, List, ap, arith, max, min, refl, subst, sym}
use Rattle.std.specs.List.{Contains}
use Rattle.std.specs.Prelude.{unwrap_or}
use Rattle.roll_frame.specs.declared.entry.Entry.{Entry}
use Rattle.roll_frame.specs.declared.refusal.Refusal.TheVariants.{NoMemory}
use Rattle.roll_session.proofs.Following.{small_of}
use Rattle.roll_session.specs.Seen.{Seen}
use Rattle.roll_relay.specs.Told.{roomless, told}
use Rattle.roll_relay.specs.Waits.{wait_on}
use Rattle.roll_relay.proofs.Rooms.{made_room}
use Rattle.roll_relay.proofs.Same.{same_held}
use Rattle.roll_relay.proofs.Told.{as_told_same, fits_same, reserve_same, told_stays}
use Rattle.roll_relay.proofs.session.HeldSessionNetworked.reserve_log.Goals as goal

pub invariant_of-self : goal.invariant_of-self
invariant_of-self g c =
    let old = c.args.self.now in
    let s = g.S.Networked.seen old.session.now in
    let later = g.S.Networked.seen c.reserve_log.new.self in
    let small = small_of g.S.Networked.step s c.laws.ensures in
    let made = c.in-Ok.ensures.reserved in
    let logged = ap (λ (x : Seen). x.core.logged) made in
    let most = ap (λ (x : Seen). x.settings.log) made in
    let room = ap (λ (x : Seen). x.reserved) made in
    record {
      fits = fits_same s later old.held.now.words.items (sym (ap roomless made)) old.fits;
      room = omega (arith, old.room, room, small.most, c.in-Ok.ensures.fits, c.saturating_add.ensures, c.len-waiting.ensures.value, c.max-self.ensures);
      log = omega (arith, old.log, logged, most, small.most, c.in-Ok.ensures.fits, c.saturating_add.ensures, c.len-waiting.ensures.value, c.max-self.ensures);
    }

pub returns-in-Ok-clause-fits : goal.returns-in-Ok-clause-fits
returns-in-Ok-clause-fits g c =
    let old = c.args.self.now in
    let s = g.S.Networked.seen old.session.now in
    let small = small_of g.S.Networked.step s c.laws.ensures in
    let kept = told_stays s old.held.now.words.items in
    omega (arith, small.most, c.in-Ok.ensures.fits, c.saturating_add.ensures, c.len-waiting.ensures.value, kept.logged, ap (λ x. x.log) kept.settings)

pub returns-in-Ok-clause-reserved : goal.returns-in-Ok-clause-reserved
returns-in-Ok-clause-reserved g c =
    let old = c.args.self.now in
    let words = old.held.now.words.items in
    as_told_same (g.S.Networked.seen c.reserve_log.new.self) (g.S.Networked.seen old.session.now) words words c.max-self.result
    (max old.reserved c.args.events) (ap roomless c.in-Ok.ensures.reserved) refl c.max-self.ensures

pub returns-in-Err-clause-refused : goal.returns-in-Err-clause-refused
returns-in-Err-clause-refused g c =
    let old = c.args.self.now in
    let s = g.S.Networked.seen old.session.now in
    let small = small_of g.S.Networked.step s c.laws.ensures in
    let all = c.saturating_add.ensures ∙ ap (λ n. min (n + c.args.events) 4294967295) c.len-waiting.ensures.value in
    c.in-Err.ensures.refused
    ∙ ap (λ o. unwrap_or o NoMemory) (sym (reserve_same s old.held.now.words.items c.args.events c.saturating_add.result all small.most))

pub returns-in-Err-clause-unchanged : goal.returns-in-Err-clause-unchanged
returns-in-Err-clause-unchanged g c =
    same_held _ _ (λ i. record c.args.self.now.session { now = c.in-Err.ensures.unchanged i }) refl refl

pub returns-in-Ok-clause-keeps : goal.returns-in-Ok-clause-keeps
returns-in-Ok-clause-keeps g c =
    let old = c.args.self.now in
    let words = old.held.now.words.items in
    let s = g.S.Networked.seen old.session.now in
    let later = g.S.Networked.seen c.reserve_log.new.self in
    let small = small_of g.S.Networked.step s c.laws.ensures in
    let made = c.in-Ok.ensures.reserved in
    let was = told_stays s words in
    let kept = told_stays later words in
    let logged = ap (λ (x : Seen). x.core.logged) made in
    let room = ap (λ (x : Seen). x.reserved) made in
    let log = ap (λ (x : Seen). x.log) made in (
      refl,
      (
        refl,
        (
          wait_on s later old.held.now (λ entry there. subst (λ (l : List Entry). Contains l entry) (sym log) there),
          (
            made_room (told s words) (told later words) old.reserved c.max-self.result c.args.events (omega (arith, was.logged, kept.logged, logged))
                (omega (arith, was.reserved, kept.reserved, room, small.most, c.in-Ok.ensures.fits, c.saturating_add.ensures, c.len-waiting.ensures.value))
                c.max-self.ensures,
            c.reserve_log.ensures.keeps,
          ),
        ),
      ),
    )
