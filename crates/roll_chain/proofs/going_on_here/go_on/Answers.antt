use Rattle.std.proofs.Common.{subst}
use Rattle.std.specs.Prelude.{IfErr, OnOk}
use Rattle.roll_peer.specs.Peered.{Peered}
use Rattle.roll_chain.specs.GoingOnHere.{HasGoneOn, IsWhyNotGone}
use Rattle.roll_chain.proofs.going_on_here.go_on.Goals as goal

pub returns-clause-gone : goal.returns-clause-gone
returns-clause-gone g c =
    subst (λ (p : Peered). OnOk c.go_on_judged.result (HasGoneOn g.G.Game.step c.args.epochs.now c.go_on_judged.new.epochs p c.go_on_judged.new.peer c.args.relay.now c.go_on_judged.new.relay
    c.args.session.now c.go_on_judged.new.session)) c.judge.ensures c.go_on_judged.ensures.gone

pub returns-clause-refused : goal.returns-clause-refused
returns-clause-refused g c =
    subst (λ (p : Peered). IfErr c.go_on_judged.result (λ fault. IsWhyNotGone g.G.Game.step c.args.epochs.now.chain p c.args.session.now fault.why)) c.judge.ensures
    c.go_on_judged.ensures.refused
