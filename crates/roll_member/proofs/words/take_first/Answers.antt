use Rattle.std.proofs.Common.{◌≡◌, ◌≤◌, List, ℕ, length, take, ap, arith}
use Rattle.std.proofs.lemmas.List.{length-take}
use Rattle.roll_frame.specs.declared.settings.Settings.{Settings}
use Rattle.roll_session.specs.Seen.{Seen}
use Rattle.roll_member.proofs.Leading.{others_fit, others_room}
use Rattle.roll_member.proofs.words.take_first.Goals as goal

pub returns-clause-leads : goal.returns-clause-leads
returns-clause-leads g c =
    let mid = g.S.Networked.seen c.make_room-room.new.session in
    let new = g.S.Networked.seen c.take_words-took.new.session in
    let input = c.args.input in
    let room = c.make_room-room.ensures in
    let frames = c.make_room-room.result.frames in
    let count = c.take_words-took.result.count in
    let now : List ℕ = c.split_at.result.0.now in
    let t = c.take_words-took.ensures.took in
    let used = t.taken.used in
    let shown : length now ≡ length (take frames c.args.words.now) =
    ap (λ (ws : List ℕ). length ws) c.split_at.ensures.front in
    let few : count ≤ frames = omega (arith, t.few, shown, length-take frames c.args.words.now) in
    let many : length (take count now) ≡ count = omega (arith, t.few, length-take count now) in
    record {
      led = c.take_words-took.ensures.led;
      room = λ two. others_room input frames count mid.reserved new.reserved two few (room.enough two)
          (omega (arith, used.reserved, many));
      fits = λ two some. others_fit input frames count mid.core.logged new.core.logged new.settings.log two few
          (omega (
            arith,
            few,
            some,
            room.fits two (omega (arith, few, some)),
            ap (λ (s : Seen). s.core.logged) room.same,
            ap (λ (s : Seen). s.settings.log) room.same,
            ap (λ (s : Settings). s.log) used.settings,
          )) (omega (arith, used.logged, many));
    }
