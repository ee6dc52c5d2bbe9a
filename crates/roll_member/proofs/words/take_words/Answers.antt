use Rattle.std.proofs.Common.{◌≡◌, ◌≤◌, ◌+◌, get_or, take, length, sym, subst, arith}
use Rattle.std.proofs.lemmas.List.{length-take, take_more}
use Rattle.roll_member.specs.Taking.{IsLed, IsTaken}
use Rattle.roll_member.proofs.Taking.{led_more, taken_more}
use Rattle.roll_session.specs.Changes.{IsHeard}
use Rattle.roll_member.proofs.words.take_words.Goals as goal

pub loop-word-preserved : goal.loop-word-preserved
loop-word-preserved g c =
    let step = g.S.Networked.step in
    let s = g.S.Networked.seen c.args.session.now in
    let mid = g.S.Networked.seen c.loop-word.session in
    let new = g.S.Networked.seen c.remote_input.new.self in
    let k = c.loop-word.word-index in
    let words = c.args.words.now in
    let some : 1 ≤ length words = omega (arith, c.loop-word.auto.word-index-end, c.loop-word-test.true) in
    let so_far : length (take k words) ≡ k = omega (arith, length-take k words, c.loop-word.auto.word-index-end, c.loop-word-test.true) in
    let count : c.loop-word.count ≡ length (take k words) = omega (arith, so_far, c.loop-word.invariant.count) in
    let heard = subst (λ f. IsHeard mid new c.args.player
    (c.args.first + f) (get_or words k 0) c.in_default.field-0) count c.in_default.ensures.heard in
    let more = taken_more step s mid new c.args.player c.args.first (get_or words k 0) (take k words) c.in_default.field-0
    (c.requires.next some) c.loop-word.invariant.taken heard in
    record {
      count = omega (arith, c.loop-word.invariant.count);
      led = subst (λ n. IsLed new c.args.player c.args.first (n + 1)) (sym count)
          (led_more step s mid new c.args.player c.args.first (get_or words k 0) (take k words)
          c.in_default.field-0 c.laws.ensures (c.requires.next some) c.loop-word.invariant.taken heard more.players);
      taken = subst (λ ws. IsTaken step s new c.args.player
          c.args.first ws) (sym (take_more words k 0 (omega (arith, c.loop-word-test.true, c.loop-word.auto.word-index-end)))) more;
      keeps = g.S.Networked.keeps_on c.args.session.now c.loop-word.session c.remote_input.new.self
          c.loop-word.invariant.keeps c.remote_input.ensures.keeps;
    }
