use Rattle.std.proofs.Common.{ap, sym, subst, Ok, Err}
use Rattle.roll_session.specs.Seen.{Seen}
use Rattle.roll_peer.specs.Turning.{IsUpToDate}
use Rattle.roll_peer.proofs.Current.{advanced_current}
use Rattle.roll_peer.proofs.Rolls.{advanced}
use Rattle.roll_peer.proofs.turning.play.Goals as goal

pub returns-in-Ok-clause-shown : goal.returns-in-Ok-clause-shown
returns-in-Ok-clause-shown g c =
    subst (λ (s : Seen). IsUpToDate s) (sym c.in-Ok.ensures.rolled) (advanced_current c.args.session.now)

pub returns-in-Ok-clause-once : goal.returns-in-Ok-clause-once
returns-in-Ok-clause-once g c =
    let e = c.in-Ok.ensures in
    advanced g.G.Game.step c.args.session.now c.advance_frame.new.self _ (Ok c.in-Ok.reached) e.accepted e.reached e.rolled tt (λ n. cc n) tt tt

pub returns-in-Err-clause-once : goal.returns-in-Err-clause-once
returns-in-Err-clause-once g c =
    advanced g.G.Game.step c.args.session.now c.advance_frame.new.self _ (Err c.in-Err.why) tt tt tt c.in-Err.ensures.refused tt (λ n. ap Err n) (λ n. cc n)
