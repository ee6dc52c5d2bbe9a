use Rattle.std.proofs.Common.{◌≡◌, ◌∙◌, List, ap, arith, eq-eqb, get_or, length, ne_eqb, sym, take}
use Rattle.std.specs.Prelude.{slice_get}
use Rattle.std.proofs.lemmas.List.{take_all}
use Rattle.std.proofs.lemmas.Option.{slice_get_past}
use Rattle.roll_inputs.specs.declared.remote_word.RemoteWord.{RemoteWord}
use Rattle.roll_relay.specs.Told.{words_among}
use Rattle.roll_relay.proofs.Told.{among_at, count_more}
use Rattle.roll_relay.proofs.words.word_among.Goals.{then-word-player+else-before-place, else-word-player}
use Rattle.roll_relay.proofs.words.word_among.Goals as goal

abbrev nobody : RemoteWord
nobody = record { player = 0; frame = 0; word = 0 }

pub returns-then-before-place : goal.returns-then-before-place
returns-then-before-place c =
    let words = c.args.words.now in
    let place = sym c.if-before-place.true ∙ c.loop-word.invariant.0 in
    sym (ap (slice_get (words_among words c.args.player)) place
    ∙ among_at words c.loop-word.word-index c.args.player nobody c.loop-word-test.true c.if-word-player.true)

pub loop-word-preserved : goal.loop-word-preserved
loop-word-preserved c =
    let k = c.loop-word.word-index in
    let q = c.args.player in
    let more = count_more c.args.words.now k q nobody c.loop-word-test.true in
    let i = c.loop-word.invariant in
    elim c.if-word-player.branch [
      | then-word-player+else-before-place w ↦
          (let e = eq-eqb (get_or c.args.words.now k nobody).player q w.if-word-player.true in
          let m = rw e at more in
          (omega (arith, m, i.0, w.before-is), omega (arith, i.1, w.before-is, w.if-before-place.false)))
      | else-word-player w ↦
          (let e = ne_eqb (get_or c.args.words.now k nobody).player q w.if-word-player.false in
          let m = rw e at more in (omega (arith, m, i.0, w.before-is), omega (arith, i.1, w.before-is)))
    ]

pub returns : goal.returns
returns c =
    let words = c.args.words.now in
    let all : take c.loop-word.word-index words ≡ words = take_all c.loop-word.word-index words c.loop-word-test.false in
    let i = c.loop-word.invariant in
    let many = ap (λ (ws : List RemoteWord). length (words_among ws c.args.player)) all in
    sym (slice_get_past (words_among words c.args.player) c.args.place (omega (arith, i.0, i.1, many)))
