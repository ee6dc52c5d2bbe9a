use Rattle.std.proofs.Common.{◌∙◌, ◌++◌, sym, ap}
use Rattle.std.proofs.lemmas.List.{append-nil}
use Rattle.roll_session.specs.Seen.{game_of}
use Rattle.prog_scripts.proofs.Written.{nothing_rolled, nothing_shown, rolled_line, six_pieces}
use Rattle.prog_scripts.proofs.output.push_frame.Goals as goal

pub returns-in_default-clause-written : goal.returns-in_default-clause-written
returns-in_default-clause-written g c =
    let none = rw c.in_default.is at c.last_plan.ensures.when in
    sym (ap (λ t. c.args.out.now.items ++ t) (nothing_rolled g.G.Shown.text_of (game_of g.G.Game.step c.args.session.now) c.args.session.now.core none) ∙ append-nil c.args.out.now.items)

pub returns-in_default-current-clause-written : goal.returns-in_default-current-clause-written
returns-in_default-current-clause-written g c =
    let none = rw c.in_default-current.is at c.current.ensures.shows in
    sym (ap (λ t. c.args.out.now.items ++ t) (nothing_shown g.G.RawGame.state_value g.G.Shown.text_of (game_of g.G.Game.step c.args.session.now) c.args.session.now.core none) ∙ append-nil c.args.out.now.items)

pub returns-clause-written : goal.returns-clause-written
returns-clause-written g c =
    let some = rw c.in-Some.is at c.last_plan.ensures.when in
    let plan = rw c.in-Some.is at c.last_plan.ensures.plan in
    let state = rw c.in-Some-current.is at c.current.ensures.shows in
    let line = rolled_line g.G.RawGame.state_value g.G.Shown.text_of (game_of g.G.Game.step c.args.session.now) c.args.session.now.core c.args.session.now.settings.players c.in-Some.plan.now c.in-Some-current.state.now c.frame.result c.settled.result some plan state c.frame.ensures c.settled.ensures in
    six_pieces c.args.out.now.items _ _ _ _ _ _ _ _ _ _ _ _ c.in_ok-push_named.ensures c.in_ok-push_named-2.ensures c.in_ok-push_named-3.ensures c.in_ok-push_named-4.ensures c.in_ok-extend_from_slice.ensures.items c.in_ok-text.ensures
    ∙ ap (λ t. c.args.out.now.items ++ t) line
