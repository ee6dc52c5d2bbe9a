use Rattle.std.proofs.Common.{◌≡◌, ◌+◌, ◌∙◌, sym, arith}
use Rattle.std.proofs.lemmas.List.FromFn.{map-range_with_len_more}
use Rattle.roll_inputs.specs.Boards.{first_known}
use Rattle.roll_inputs.proofs.queues.first_queues.Goals as goal

pub loop-place-preserved : goal.loop-place-preserved
loop-place-preserved c =
    let place : 0 + c.loop-place.place ≡ c.loop-place.place = omega arith in
    c.in_ok-push.ensures.items ∙ rw (c.loop-place.invariant, c.in_ok-new.ensures) (sym (map-range_with_len_more (first_known c.args.settings.now) 0 c.loop-place.place c.loop-place.place place))
