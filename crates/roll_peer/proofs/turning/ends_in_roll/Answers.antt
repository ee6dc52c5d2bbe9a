use Rattle.std.proofs.Common.{◌≡◌, ◌∙◌, ◌+◌, ◌-◌, ◌<◌, ap, arith, false, length, sym, take, true}
use Rattle.roll_peer.specs.Turning.{ends_in_roll}
use Rattle.roll_peer.proofs.Current.{ends_at}
use Rattle.roll_peer.proofs.turning.ends_in_roll.Goals as goal

pub returns-then-not-is_graft : goal.returns-then-not-is_graft
returns-then-not-is_graft c =
    let log = c.args.log.now.entries in
    let place = c.loop-place.place - 1 in
    let here : place + 1 ≡ c.loop-place.place = omega arith in
    let inside : place < length log = omega arith in
    c.is_roll.ensures ∙ sym (ends_at log place false inside (sym c.is_graft.ensures ∙ c.if-not-is_graft.true))
    ∙ ap (λ n. ends_in_roll (take n log)) here ∙ c.loop-place.invariant

pub loop-place-preserved : goal.loop-place-preserved
loop-place-preserved c =
    let log = c.args.log.now.entries in
    let place = c.loop-place.place - 1 in
    let here : place + 1 ≡ c.loop-place.place = omega arith in
    let inside : place < length log = omega arith in
    sym (ends_at log place true inside (sym c.is_graft.ensures ∙ c.if-not-is_graft.false))
    ∙ ap (λ n. ends_in_roll (take n log)) here ∙ c.loop-place.invariant
