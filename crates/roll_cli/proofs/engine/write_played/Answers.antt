use Rattle.std.proofs.Common.{◌∙◌, ◌++◌, ap}
use Rattle.roll_frame.specs.Games.{Game}
use Rattle.roll_frame.specs.declared.settings.Settings.{Settings}
use Rattle.prog_scripts.specs.Output.{game_from, output_under, refusals_under}
use Rattle.prog_scripts.proofs.Engines.{outputs_front}
use Rattle.roll_cli.proofs.engine.write_played.Goals as goal

pub returns-in_err-write_all-clause-outputs : goal.returns-in_err-write_all-clause-outputs
returns-in_err-write_all-clause-outputs g c =
    let game : Game = game_from (g.G.RawGame.snapshot_value c.args.opening) g.G.Game.step in
    let h = c.in_ok-refused.ensures.written in
    outputs_front (g.W.Write.contents c.args.writer.now) (g.W.Write.contents c.write_all.new.writer) c.from_residual-in_err-write_all.result _ c.deref.result.now c.in_ok-refused.refused
    c.from_residual-in_err-write_all.ensures.1
    (record {
      commands = h.0;
      are = h.1;
      output_is = c.deref.ensures.value ∙ h.2 ∙ (λ i. c.in_ok-out.ensures.items i ++ output_under g.G.Shown.text_of (c.settings-settings.ensures i) game h.0);
      refused_is = h.3 ∙ ap (λ (s : Settings). refusals_under s game h.0) c.settings-settings.ensures;
    })
    c.in_err-write_all.ensures.err
