use Rattle.std.proofs.Common.{◌∙◌, Ok, sym}
use Rattle.roll_session.proofs.Changes.{refused_answered, remote_answered}
use Rattle.roll_host.specs.Heard.{event_of}
use Rattle.roll_host.proofs.Hearing.{heard_refused, heard_taken, held_for}
use Rattle.roll_host.proofs.pump.hear.Goals as goal

pub returns-in-Ok-clause-heard : goal.returns-in-Ok-clause-heard
returns-in-Ok-clause-heard g c =
    let item = c.args.item in
    heard_taken g.G.Game.step c.args.session.now c.remote_input.new.self item c.in-Ok.field-0
    (remote_answered g.G.Game.step c.args.session.now c.remote_input.new.self item.player item.frame item.word (Ok c.in-Ok.field-0) c.in-Ok.ensures.heard tt tt)

pub returns-in-Err-clause-held : goal.returns-in-Err-clause-held
returns-in-Err-clause-held g c =
    let e = c.in-Err.ensures in
    (held_for g.G.Game.step c.args.session.now c.remote_input.new.self c.args.item c.in-Err.why (sym c.can_wait.ensures ∙ c.if-can_wait.true)
    (refused_answered g.G.Game.step c.args.session.now c.remote_input.new.self (event_of c.args.item) c.in-Err.why e.fresh e.refused)).0

pub returns-in-Err-2-clause-heard : goal.returns-in-Err-2-clause-heard
returns-in-Err-2-clause-heard g c =
    let e = c.in-Err.ensures in
    heard_refused g.G.Game.step c.args.session.now c.remote_input.new.self c.args.item c.in-Err.why (sym c.can_wait.ensures ∙ c.if-can_wait.false)
    (refused_answered g.G.Game.step c.args.session.now c.remote_input.new.self (event_of c.args.item) c.in-Err.why e.fresh e.refused)
