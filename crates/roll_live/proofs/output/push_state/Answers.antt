use Rattle.std.proofs.Common.{◌∙◌, ◌++◌, sym, ap, codes}
use Rattle.std.specs.Fmt.{decimal}
use Rattle.std.proofs.lemmas.List.{append-nil}
use Rattle.roll_session.specs.Seen.{game_of}
use Rattle.roll_live.proofs.Printed.{nothing_shown, state_shown, pieces}
use Rattle.roll_live.proofs.output.push_state.Goals as goal

pub returns-in_default-clause-written : goal.returns-in_default-clause-written
returns-in_default-clause-written g c =
    let none = rw c.in_default.is at c.current.ensures.shows in
    sym (ap (λ t. c.args.out.now.items ++ t) (nothing_shown g.G.RawGame.state_value g.G.Shown.text_of (game_of g.G.Game.step c.args.session.now) c.args.session.now.core none) ∙ append-nil c.args.out.now.items)

pub returns-clause-written : goal.returns-clause-written
returns-clause-written g c =
    let state = rw c.in-Some.is at c.current.ensures.shows in
    let line = state_shown g.G.RawGame.state_value g.G.Shown.text_of (game_of g.G.Game.step c.args.session.now) c.args.session.now.core c.in-Some.state.now c.frame.result state c.frame.ensures in
    pieces c.args.out.now.items (codes "frame ") (decimal c.frame.result) _ _ _ _ _ c.in_ok-push_named.ensures c.in_ok-extend_from_slice.ensures.items c.in_ok-text.ensures
    ∙ ap (λ t. c.args.out.now.items ++ t) line
