use Rattle.std.proofs.Common.{refl}
use Rattle.roll_chain.proofs.GoneOnElsewhere.{gone_on, not_gone_on}
use Rattle.roll_chain.proofs.epochs.Epochs+Core+u32.go_on_judged.Goals as goal

pub returns-in-Ok : goal.returns-in-Ok
returns-in-Ok c =
    gone_on c.args.self.now _ c.args.peer.now c.go_on.new.peer c.args.relay.now c.go_on.new.relay c.args.session.now c.go_on.new.session c.play_again.new.session
    c.in-Ok.closing c.in-Ok.past c.in-Some.opening c.in-Some.ensures.opens.0 c.play_again.result c.in-Some.ensures.opens.1 c.in-Some.ensures.opens.2
    refl c.in-Ok.ensures.goes_on c.play_again.ensures

pub returns-in-Err : goal.returns-in-Err
returns-in-Err c = (
  record {
    epochs = λ k. record c.args.self.now { chain = c.in-Err.ensures.chain k };
    peer_is = c.in-Err.ensures.peer;
    relay_is = c.in-Err.ensures.relay;
    session_is = c.in-Err.ensures.session;
  },
  not_gone_on c.args.self.now c.args.peer.now c.args.session.now c.in-Err.why c.in-Some.opening c.in-Some.ensures.opens.0
      c.in-Some.ensures.opens.1 c.in-Some.ensures.opens.2 c.in-Err.ensures.refused,
)
