use Rattle.std.proofs.Common.{◌≡◌, Err, rules}
use Rattle.roll_session.proofs.Changes.{disconnect_refused, disconnect_taken}
use Rattle.roll_session.proofs.session.Session.disconnect_player.Goals as goal

pub returns-in_err-take-clause-refused : goal.returns-in_err-take-clause-refused
returns-in_err-take-clause-refused g c =
    let why = c.in_err-take.field-0.0 in
    let is : c.from_residual.result ≡ Err why = search (rules, c.from_residual.ensures) in
    rw is (disconnect_refused g.G.Game.step c.args.self.now c.take.new.self c.args.player why c.in_err-take.ensures)

pub returns-clause-accepted : goal.returns-clause-accepted
returns-clause-accepted g c = (disconnect_taken g.G.Game.step c.args.self.now c.take.new.self c.args.player c.in_ok-take.ensures).0

pub returns-clause-taken : goal.returns-clause-taken
returns-clause-taken g c = (disconnect_taken g.G.Game.step c.args.self.now c.take.new.self c.args.player c.in_ok-take.ensures).1
