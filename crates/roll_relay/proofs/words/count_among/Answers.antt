use Rattle.std.proofs.Common.{arith, eq-eqb, ne_eqb, get_or}
use Rattle.roll_relay.proofs.Told.{count_more}
use Rattle.roll_inputs.specs.declared.remote_word.RemoteWord.{RemoteWord}
use Rattle.roll_relay.proofs.words.count_among.Goals.{then-word-player, else-word-player}
use Rattle.roll_relay.proofs.words.count_among.Goals as goal

pub loop-word-preserved : goal.loop-word-preserved
loop-word-preserved c =
    let k = c.loop-word.word-index in
    let d : RemoteWord = record { player = 0; frame = 0; word = 0 } in
    let q = c.args.player in
    let more = count_more c.args.words.now k q d c.loop-word-test.true in
    let i = c.loop-word.invariant in
    elim c.if-word-player.branch [
      | then-word-player w ↦
          (let e = eq-eqb (get_or c.args.words.now k d).player q w.if-word-player.true in
          let m = rw e at more in (omega (arith, m, i.0, w.count-is), omega (arith, i.1, w.count-is)))
      | else-word-player w ↦
          (let e = ne_eqb (get_or c.args.words.now k d).player q w.if-word-player.false in
          let m = rw e at more in (omega (arith, m, i.0, w.count-is), omega (arith, i.1, w.count-is)))
    ]
