use Rattle.std.proofs.Common.{refl}
use Rattle.roll_chain.proofs.GoneOnHere.{gone_on, not_gone_on}
use Rattle.roll_chain.proofs.going_on_here.go_on_judged.Goals as goal

pub returns-in-Ok-clause-gone : goal.returns-in-Ok-clause-gone
returns-in-Ok-clause-gone g c =
    gone_on g.G.Game.step c.args.epochs.now _ c.args.peer.now c.follow.new.peer c.args.relay.now c.follow.new.relay c.args.session.now c.follow.new.session c.play_again.new.session
    c.in-Ok.past c.in-Some.opening c.in-Some.ensures.opens.0 c.play_again.result c.in-Some.ensures.opens.1 c.in-Some.ensures.opens.2
    refl c.in-Ok.ensures.goes_on c.play_again.ensures

pub returns-in-Err-clause-refused : goal.returns-in-Err-clause-refused
returns-in-Err-clause-refused g c =
    not_gone_on g.G.Game.step c.args.epochs.now.chain c.args.peer.now c.args.session.now c.in-Err.fault.why c.in-Some.opening c.in-Some.ensures.opens.0
    c.in-Some.ensures.opens.1 c.in-Some.ensures.opens.2 c.in-Err.ensures.refused
