use Rattle.std.proofs.Common.{◌∙◌, sym}
use Rattle.std.proofs.lemmas.Option.{IfSome_then}
use Rattle.prog_scripts.specs.Headers.{setup_of}
use Rattle.prog_scripts.specs.Output.{duel_output, duel_refusals}
use Rattle.prog_scripts.proofs.Engines.{plays_written}
use Rattle.roll_cli.proofs.Headlines.{duel_headlined}
use Rattle.roll_cli.proofs.PlayedTo.{output_of_outline}
use Rattle.roll_cli.proofs.engine.play_duel.Goals as goal

pub returns-clause-plays : goal.returns-clause-plays
returns-clause-plays g c =
    plays_written (g.R.Read.remaining c.args.reader.now) (g.W.Write.contents c.args.writer.now) (g.W.Write.contents c.write_duel.new.writer) _ c.write_duel.result
    (IfSome_then (g.R.Read.remaining c.args.reader.now) c.in_ok-text.ensures.all
    (λ text same whole refused after.
    duel_headlined text whole refused
    (output_of_outline (setup_of c.in_ok-header.header) c.in_ok-header.commands.now c.deref.result.now text duel_output duel_refusals whole refused c.in_ok-header.ensures.outlined (sym same ∙ sym c.deref.ensures.value) after)))
    c.write_duel.ensures.fault c.write_duel.ensures.outputs
