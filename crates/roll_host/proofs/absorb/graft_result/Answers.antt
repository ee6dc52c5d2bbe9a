use Rattle.std.proofs.Common.{Ok, refl}
use Rattle.roll_session.specs.Calls.{grafting}
use Rattle.roll_session.proofs.Changes.{graft_answered, refused_answered}
use Rattle.roll_host.proofs.Fates.{graft_few, graft_replied}
use Rattle.roll_host.proofs.absorb.graft_result.Goals as goal

pub returns-in-Ok : goal.returns-in-Ok
returns-in-Ok g c =
    let e = c.in-Ok.ensures in
    let branch = c.in-Grown.branch in
    let replied = graft_replied g.G.Game.step c.args.session.now c.graft.new.self branch c.in-Ok.grafted.added
    (graft_answered g.G.Game.step c.args.session.now c.graft.new.self branch (Ok c.in-Ok.grafted) e.accepted e.grafted e.taken tt) in
    record { fate = rw c.in-Grown.is replied; few = graft_few g.G.Game.step c.args.session.now c.graft.new.self branch c.in-Ok.grafted.added replied }

pub returns-in-Err-clause-fate : goal.returns-in-Err-clause-fate
returns-in-Err-clause-fate g c =
    rw c.in-Grown.is (refused_answered g.G.Game.step c.args.session.now c.graft.new.self (grafting c.in-Grown.branch) c.in-Err.why refl c.in-Err.ensures.refused)
