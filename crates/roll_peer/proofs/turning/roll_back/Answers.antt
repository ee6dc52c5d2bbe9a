use Rattle.std.proofs.Common.{rules, ◌≡◌, ◌∙◌, ap, sym, Ok, Err}
use Rattle.roll_peer.specs.Turning.{ends_in_roll}
use Rattle.roll_peer.proofs.Current.{still_current}
use Rattle.roll_peer.proofs.Rolls.{synced}
use Rattle.roll_peer.proofs.turning.roll_back.Goals as goal

pub returns-else-not-ends_in_roll-clause-shown : goal.returns-else-not-ends_in_roll-clause-shown
returns-else-not-ends_in_roll-clause-shown g c =
    still_current c.args.session.now c.laws.ensures.log.core (sym (c.ends_in_roll.ensures ∙ ap ends_in_roll c.log.ensures) ∙ c.if-not-ends_in_roll.false)

pub returns-in_ok-synchronize_input-clause-once : goal.returns-in_ok-synchronize_input-clause-once
returns-in_ok-synchronize_input-clause-once g c =
    let e = c.in_ok-synchronize_input in
    synced g.G.Game.step c.args.session.now c.synchronize_input.new.self _ (Ok e.field-0) e.ensures.accepted e.ensures.row e.ensures.rolled tt (λ n. cc n) tt tt

pub returns-in_err-synchronize_input-clause-once : goal.returns-in_err-synchronize_input-clause-once
returns-in_err-synchronize_input-clause-once g c =
    let e = c.in_err-synchronize_input in
    let is : c.from_residual.result ≡ Err e.field-0.0 = search (rules, c.from_residual.ensures) in
    synced g.G.Game.step c.args.session.now c.synchronize_input.new.self _ (Err e.field-0.0) tt tt tt e.ensures.refused tt (λ n. is ∙ ap Err n) (λ n. cc (n, is))
