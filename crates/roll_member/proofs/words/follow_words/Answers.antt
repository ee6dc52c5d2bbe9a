use Rattle.std.proofs.Common.{◌≡◌, ◌≤◌, ◌<◌, ◌+◌, get_or, take, length, sym, subst, arith}
use Rattle.std.proofs.lemmas.List.{length-take, take_more}
use Rattle.roll_member.specs.Taking.{IsTaken}
use Rattle.roll_member.proofs.Taking.{never_refused, taken_more}
use Rattle.roll_session.specs.Changes.{remote_refusal, IsHeard, IsRefused}
use Rattle.roll_member.proofs.words.follow_words.Goals as goal

pub loop-word-preserved : goal.loop-word-preserved
loop-word-preserved g c =
    let step = g.S.Networked.step in
    let s = g.S.Networked.seen c.args.session.now in
    let mid = g.S.Networked.seen c.loop-word.session in
    let new = g.S.Networked.seen c.remote_input.new.self in
    let k = c.loop-word.word-index in
    let words = c.args.words.now in
    let some : 1 ≤ length words = omega (arith, c.loop-word.auto.word-index-end, c.loop-word-test.true) in
    let so_far : length (take k words) ≡ k = omega (arith, length-take k words, c.loop-word.auto.word-index-end, c.loop-word-test.true) in
    let count : c.loop-word.count ≡ length (take k words) = omega (arith, so_far, c.loop-word.invariant.count) in
    let heard = subst (λ f. IsHeard mid new c.args.player
    (c.args.first + f) (get_or words k 0) c.in-Ok.field-0) count c.in-Ok.ensures.heard in
    record {
      count = omega (arith, c.loop-word.invariant.count);
      taken = subst (λ ws. IsTaken step s new c.args.player
          c.args.first ws) (sym (take_more words k 0 (omega (arith, c.loop-word-test.true, c.loop-word.auto.word-index-end))))
          (taken_more step s mid new c.args.player c.args.first (get_or words k 0) (take k words) c.in-Ok.field-0
          (c.requires.can.next some) c.loop-word.invariant.taken heard);
      keeps = g.S.Networked.keeps_on c.args.session.now c.loop-word.session c.remote_input.new.self
          c.loop-word.invariant.keeps c.remote_input.ensures.keeps;
    }

pub unreachable-requires : goal.unreachable-requires
unreachable-requires g c =
    let mid = g.S.Networked.seen c.loop-word.session in
    let new = g.S.Networked.seen c.remote_input.new.self in
    let k = c.loop-word.word-index in
    let words = c.args.words.now in
    let so_far : length (take k words) ≡ k = omega (arith, length-take k words, c.loop-word.auto.word-index-end, c.loop-word-test.true) in
    let count : c.loop-word.count ≡ length (take k words) = omega (arith, so_far, c.loop-word.invariant.count) in
    let less : length (take k words) < length words = omega (arith, so_far, c.loop-word-test.true) in
    never_refused g.S.Networked.step (g.S.Networked.seen c.args.session.now) mid new c.args.player c.args.first
    (length words) (take k words) c.in-Err.field-0 c.laws.ensures c.requires.can c.loop-word.invariant.taken less
    (subst (λ n. IsRefused (remote_refusal mid c.args.player (c.args.first + n)) mid new c.in-Err.field-0) count
    c.in-Err.ensures.refused)
