use Rattle.roll_host.proofs.Speculating.{job_dropped, job_issued, job_placeless}
use Rattle.roll_host.proofs.host.hand_out.Goals as goal

pub returns-then-not-make_place-clause-handed : goal.returns-then-not-make_place-clause-handed
returns-then-not-make_place-clause-handed g c =
    let crowded = c.make_place.ensures.crowded c.if-not-make_place.true in
    rw c.in-Some.is (job_placeless c.in-Some.job c.args.owner.now c.make_place.new.owner crowded.0 crowded.1)

pub returns-in-Ok-clause-handed : goal.returns-in-Ok-clause-handed
returns-in-Ok-clause-handed g c =
    let place = c.make_place.ensures.made c.if-not-make_place.false in
    rw c.in-Some.is (job_issued c.in-Some.job c.args.owner.now c.make_place.new.owner c.issue.new.self place c.in-Ok.ticket c.in-Ok.ensures.ticket c.in-Ok.ensures.issued c.issue.ensures.same)

pub returns-in-Err-clause-handed : goal.returns-in-Err-clause-handed
returns-in-Err-clause-handed g c =
    let place = c.make_place.ensures.made c.if-not-make_place.false in
    let room = c.make_place.ensures.room c.if-not-make_place.false in
    let said = c.in-Err.ensures in
    rw c.in-Some.is (job_dropped c.in-Some.job c.args.owner.now c.make_place.new.owner c.issue.new.self place c.in-Err.fault.why room said.refused said.queue said.unchanged c.issue.ensures.same)
