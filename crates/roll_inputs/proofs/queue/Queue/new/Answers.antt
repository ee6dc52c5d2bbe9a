use Rattle.std.proofs.Common.{◌≡◌, ◌≤◌, ◌∙◌, ap, arith}
use Rattle.std.specs.Prelude.{slice_index_or}
use Rattle.roll_frame.specs.declared.limits.TheConstants.{DELAY_LIMIT}
use Rattle.roll_inputs.specs.Queues.{Known}
use Rattle.roll_inputs.proofs.Begun.{begun, begun_long, begun_next}
use Rattle.roll_inputs.proofs.queue.Queue.new.Goals as goal

pub hear-requires-clause-room : goal.hear-requires-clause-room
hear-requires-clause-room c =
    let short : slice_index_or c.args.settings.now.delays c.from-at.result 0 ≤ DELAY_LIMIT = rw (c.from-at.ensures) c.requires.delay in
    rw (c.loop-frame.invariant) (omega (arith, begun_long c.args.settings.now c.args.place c.loop-frame.frame, c.loop-frame-test.true, short))

pub hear-requires-clause-fits : goal.hear-requires-clause-fits
hear-requires-clause-fits c =
    let short : slice_index_or c.args.settings.now.delays c.from-at.result 0 ≤ DELAY_LIMIT = rw (c.from-at.ensures) c.requires.delay in
    rw (c.loop-frame.invariant) (omega (arith, begun_long c.args.settings.now c.args.place c.loop-frame.frame, c.loop-frame-test.true, short))

pub loop-frame-preserved : goal.loop-frame-preserved
loop-frame-preserved c =
    let next = begun_next c.args.settings.now c.args.place c.loop-frame.frame in
    c.hear.ensures ∙ rw (c.loop-frame.invariant, c.from-at.ensures) next
