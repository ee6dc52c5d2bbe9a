use Rattle.std.proofs.Common.{◌∙◌, get_or, sym, subst, take}
use Rattle.roll_inputs.specs.declared.remote_word.RemoteWord.{RemoteWord}
use Rattle.roll_session.specs.Changes.{remote_refusal, IsHeard, IsRefused}
use Rattle.roll_session.specs.Seen.{Seen}
use Rattle.roll_relay.specs.Told.{told}
use Rattle.roll_relay.proofs.Told.{is_taken, not_refused, room_at, takes_at, told_at}
use Rattle.roll_relay.proofs.words.tell.Goals as goal

abbrev nobody : RemoteWord
nobody = record { player = 0; frame = 0; word = 0 }

pub unreachable-requires : goal.unreachable-requires
unreachable-requires g c =
    let s = g.S.Networked.seen c.args.session.now in
    let words = c.args.words.now in
    let k = c.loop-word.word-index in
    let w = get_or words k nobody in
    let at : Seen = told s (take k words) in
    not_refused at (g.S.Networked.seen c.remote_input.new.self) w c.in-Err.field-0
    (takes_at nobody s words k c.loop-word-test.true c.requires.fits)
    (room_at nobody s words k c.loop-word-test.true c.requires.room)
    (subst (λ (m : Seen). IsRefused (remote_refusal m w.player w.frame) m (g.S.Networked.seen c.remote_input.new.self) c.in-Err.field-0)
    c.loop-word.invariant.told c.in-Err.ensures.refused)

pub loop-word-preserved : goal.loop-word-preserved
loop-word-preserved g c =
    let s = g.S.Networked.seen c.args.session.now in
    let words = c.args.words.now in
    let k = c.loop-word.word-index in
    let w = get_or words k nobody in
    let at : Seen = told s (take k words) in
    record {
      told = is_taken at (g.S.Networked.seen c.remote_input.new.self) w c.in-Ok.field-0
          (takes_at nobody s words k c.loop-word-test.true c.requires.fits)
          (subst (λ (m : Seen). IsHeard m (g.S.Networked.seen c.remote_input.new.self) w.player w.frame w.word c.in-Ok.field-0)
          c.loop-word.invariant.told c.in-Ok.ensures.heard)
          ∙ sym (told_at nobody s words k c.loop-word-test.true);
      keeps = g.S.Networked.keeps_on c.args.session.now c.loop-word.session c.remote_input.new.self
          c.loop-word.invariant.keeps c.remote_input.ensures.keeps;
    }
