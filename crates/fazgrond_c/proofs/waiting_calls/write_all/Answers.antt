use Rattle.std.proofs.Common.{◌≡◌, ◌+◌, suc, ◌++◌, drop, take, map, set, ap, ◌∙◌, arith}
use Rattle.roll_inputs.specs.declared.remote_word.RemoteWord.{RemoteWord}
use Rattle.fazgrond_c.specs.Waiting.{word_out}
use Rattle.fazgrond_c.proofs.Handing.{one_more}
use Rattle.fazgrond_c.proofs.waiting_calls.write_all.Goals as goal

abbrev nobody : RemoteWord
nobody = record { player = 0; frame = 0; word = 0 }

pub loop-place-preserved : goal.loop-place-preserved
loop-place-preserved c =
    let place = c.loop-place.place in
    let words = c.args.words.now in
    let next : suc place ≡ place + 1 = omega arith in
    ap (λ out. set out place c.of_word.result) c.loop-place.invariant
    ∙ (ap (set (map word_out (take place words) ++ drop place c.args.out.now) place) c.of_word.ensures
    ∙ (one_more word_out words c.args.out.now place nobody c.loop-place-test.true c.requires
    ∙ ap (λ n. map word_out (take n words) ++ drop n c.args.out.now) next))
