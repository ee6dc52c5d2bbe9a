use Rattle.std.proofs.Common.{◌∙◌, sym}
use Rattle.std.proofs.lemmas.Option.{IfSome_then}
use Rattle.roll_frame.specs.Games.{Game}
use Rattle.prog_scripts.proofs.Engines.{plays_written}
use Rattle.prog_scripts.specs.Headers.{setup_of}
use Rattle.prog_scripts.specs.Output.{game_from, output, refusals}
use Rattle.roll_cli.proofs.Headlines.{output_headlined}
use Rattle.roll_cli.proofs.PlayedTo.{output_of_outline}
use Rattle.roll_cli.proofs.engine.play.Goals as goal

pub returns-clause-plays : goal.returns-clause-plays
returns-clause-plays g c =
    let known = g.R.Read.remaining c.args.reader.now in
    let game : Game = game_from (g.G.RawGame.snapshot_value c.args.opening) g.G.Game.step in
    plays_written known (g.W.Write.contents c.args.writer.now) (g.W.Write.contents c.write_played.new.writer) _ c.write_played.result
    (IfSome_then known c.in_ok-text.ensures.all
    (λ text same whole refused after.
    output_headlined g.G.Shown.text_of game text whole refused
    (output_of_outline (setup_of c.in_ok-header.header) c.in_ok-header.commands.now c.deref.result.now text (output g.G.Shown.text_of game) (refusals game) whole refused c.in_ok-header.ensures.outlined (sym same ∙ sym c.deref.ensures.value) after)))
    c.write_played.ensures.fault c.write_played.ensures.outputs
