use Rattle.std.proofs.Common.{◌≡◌, Err, arith, rules}
use Rattle.roll_session.proofs.Changes.{advance_refused, advance_rolled}
use Rattle.roll_session.proofs.Following.{small_of}
use Rattle.roll_session.proofs.session.Session.advance_frame.Goals as goal

pub overflow_add-next : goal.overflow_add-next
overflow_add-next g c = omega (arith, c.frame-next.ensures, (small_of _ _ c.laws.ensures.log).frame)

pub returns-in_err-from-clause-refused : goal.returns-in_err-from-clause-refused
returns-in_err-from-clause-refused g c =
    let why = c.in_err-from.field-0.0 in
    let is : c.from_residual.result ≡ Err why = search (rules, c.from_residual.ensures) in
    rw is (advance_refused g.G.Game.step c.args.self.now c.roll_to.new.self why c.in_err-from.ensures.answered)

pub returns-clause-accepted : goal.returns-clause-accepted
returns-clause-accepted g c = (advance_rolled g.G.Game.step c.args.self.now c.roll_to.new.self _ _ _ c.in_ok-from.ensures.answered).0

pub returns-clause-rolled : goal.returns-clause-rolled
returns-clause-rolled g c = (advance_rolled g.G.Game.step c.args.self.now c.roll_to.new.self _ _ _ c.in_ok-from.ensures.answered).1
