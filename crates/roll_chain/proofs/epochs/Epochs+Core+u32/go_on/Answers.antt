use Rattle.std.proofs.Common.{subst}
use Rattle.roll_peer.specs.Peered.{Peered}
use Rattle.roll_chain.specs.Epochs.{GoesOnIn}
use Rattle.roll_chain.proofs.epochs.Epochs+Core+u32.go_on.Goals as goal

pub returns : goal.returns
returns c =
    subst (λ (p : Peered). GoesOnIn c.args.self.now c.go_on_judged.new.self p c.go_on_judged.new.peer c.args.relay.now c.go_on_judged.new.relay
    c.args.session.now c.go_on_judged.new.session c.go_on_judged.result) c.judge.ensures c.go_on_judged.ensures
