use Rattle.std.proofs.Common.{◌≡◌, Err, rules}
use Rattle.roll_session.proofs.Changes.{sync_refused, sync_rolled}
use Rattle.roll_session.proofs.session.Session.synchronize_input.Goals as goal

pub returns-in_err-roll_to-clause-refused : goal.returns-in_err-roll_to-clause-refused
returns-in_err-roll_to-clause-refused g c =
    let why = c.in_err-roll_to.field-0.0 in
    let is : c.from_residual.result ≡ Err why = search (rules, c.from_residual.ensures) in
    rw is (sync_refused g.G.Game.step c.args.self.now c.roll_to.new.self why c.in_err-roll_to.ensures.answered)

pub returns-clause-accepted : goal.returns-clause-accepted
returns-clause-accepted g c = (sync_rolled g.G.Game.step c.args.self.now c.roll_to.new.self _ c.in_ok-roll_to.ensures.answered).0

pub returns-clause-rolled : goal.returns-clause-rolled
returns-clause-rolled g c = (sync_rolled g.G.Game.step c.args.self.now c.roll_to.new.self _ c.in_ok-roll_to.ensures.answered).1
