use Rattle.std.proofs.Common.{ap, ◌∙◌}
use Rattle.roll_frame.specs.Timeline.{row_at}
use Rattle.roll_frame.specs.declared.reply.Reply.TheVariants.{Synchronized}
use Rattle.roll_session.specs.declared.event.Call.TheVariants.{Sync}
use Rattle.roll_requests.proofs.Made.{made_of}
use Rattle.roll_requests.proofs.elsewhere.Elsewhere.synchronize.Goals as goal

pub returns-clause-made : goal.returns-clause-made
returns-clause-made c =
    let e = c.in_ok-roll.ensures in
    let old = c.args.self.now in
    let inputs = rw (c.core.ensures.saves, c.core.ensures.seen) at c.laws.ensures.inputs in
    let row = c.row-row.ensures ∙ (ap (λ i. row_at i.players c.frame.result) inputs ∙ ap (row_at old.seen.core.players) c.frame.ensures) in
    made_of old c.roll.new.self Sync (Synchronized c.row-row.result) e.allowed e.entered
    (record { reached = c.in_ok-roll.field-0; rolls = e.rolls; jobs = e.jobs; limit = e.limit }) (ap Synchronized row)
