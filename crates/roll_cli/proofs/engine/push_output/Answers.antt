use Rattle.std.proofs.Common.{◌∙◌, ◌++◌, List, ap}
use Rattle.std.proofs.lemmas.Result.{IfOk-weaker}
use Rattle.roll_frame.specs.Games.{Game}
use Rattle.prog_scripts.specs.declared.command.Command.{Command}
use Rattle.prog_scripts.specs.Output.{refusals_from, written_from}
use Rattle.roll_cli.specs.Playings.{Played, game_of}
use Rattle.roll_cli.proofs.Played.{first_played, written_started, refusals_started, written_refused, refusals_refused, if_ok_both}
use Rattle.roll_cli.proofs.engine.push_output.Goals as goal

pub returns-in-Ok-clause-written : goal.returns-in-Ok-clause-written
returns-in-Ok-clause-written g c =
    let opening = g.G.RawGame.snapshot_value c.args.opening in let game : Game = record { opening = opening; step = g.G.Game.step } in
    let first = c.expect.ensures ∙ (c.new-playing.ensures ∙ first_played c.in-Ok.session c.args.settings opening _ c.in-Ok.ensures.session) in
    let whole = λ (list : List Command). ap (λ (v : Played). written_from g.G.Shown.text_of v.settings (game_of g.G.Game.step v) v.now list) first ∙ written_started g.G.Shown.text_of game list c.args.settings c.in-Ok.ensures.accepted in
    let refusals = λ (list : List Command). ap (λ (v : Played). refusals_from v.settings (game_of g.G.Game.step v) v.now list) first ∙ refusals_started game list c.args.settings c.in-Ok.ensures.accepted in
    IfOk-weaker c.play_all.result _ _ (λ refused h. (h.0, h.1, h.2 ∙ ap (λ t. c.args.out.now.items ++ t) (whole h.0), h.3 ∙ refusals h.0)) c.play_all.ensures.played

pub returns-in-Err-clause-written : goal.returns-in-Err-clause-written
returns-in-Err-clause-written g c =
    let game : Game = record { opening = g.G.RawGame.snapshot_value c.args.opening; step = g.G.Game.step } in
    let list = c.requires.readable.0 in
    if_ok_both c.push_not_started.result
    (λ refused h written. (list, c.requires.readable.1, written ∙ ap (λ t. c.args.out.now.items ++ t) (written_refused g.G.Shown.text_of game list c.args.settings c.in-Err.fault.why c.in-Err.ensures.refused h.1), h.0 ∙ refusals_refused game list c.args.settings c.in-Err.fault.why c.in-Err.ensures.refused h.1))
    c.push_not_started.ensures.refused c.push_not_started.ensures.written
