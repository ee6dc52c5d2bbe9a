use Rattle.std.proofs.Common.{refl}
use Rattle.roll_frame.specs.declared.reply.Reply.TheVariants.{Reached}
use Rattle.roll_session.specs.declared.event.Call.TheVariants.{Advance}
use Rattle.roll_requests.proofs.Made.{made_of}
use Rattle.roll_requests.proofs.elsewhere.Elsewhere.advance.Goals as goal

pub returns-clause-made : goal.returns-clause-made
returns-clause-made c =
    let e = c.in_ok-frame.ensures in
    let r = c.in_ok-frame.field-0 in
    made_of c.args.self.now c.roll.new.self Advance (Reached r.frame r.from r.rerun) e.allowed e.entered
    (record { reached = r; rolls = e.rolls; jobs = e.jobs; limit = e.limit })
    (rw (e.rolls.from_is, e.rolls.rerun_is, e.rolls.is_to) refl)
