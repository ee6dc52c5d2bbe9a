use Rattle.std.proofs.Common.{◌≡◌, ◌∙◌, ◌++◌, ◌+◌, ◌-◌, ◌≤◌, ℕ, List, ap, arith, drop, length, length-append, take}
use Rattle.std.proofs.lemmas.List.{length-take}
use Rattle.roll_session.specs.Headline.{words_of}
use Rattle.roll_viewer.proofs.telling.push_words.Goals as goal

pub push-requires : goal.push-requires
push-requires g c =
    let first = c.args.span.first in
    let frame = c.loop-frame.frame in
    let told = drop first (words_of (g.S.Networked.seen c.args.session.now) c.args.player) in
    let n : length c.loop-frame.words.items ≤ length c.args.words.now.items + (frame - first) =
    omega (
      arith,
      ap (λ (ws : List ℕ). length ws) c.loop-frame.invariant.so_far,
      length-append c.args.words.now.items (take (frame - first) told),
      length-take (frame - first) told,
    ) in
    omega (arith, n, c.requires, c.loop-frame-test.true, c.loop-frame.auto.frame)

pub returns : goal.returns
returns g c =
    let first = c.args.span.first in
    let end = c.args.span.end in
    let told = drop first (words_of (g.S.Networked.seen c.args.session.now) c.args.player) in
    let n : c.loop-frame.frame - first ≡ end - first =
    omega (arith, c.loop-frame.invariant.within, c.loop-frame-test.false) in
    c.loop-frame.invariant.so_far ∙ ap (λ n. c.args.words.now.items ++ take n told) n
