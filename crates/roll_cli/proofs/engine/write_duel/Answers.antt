use Rattle.std.proofs.Common.{◌≡◌, ◌∙◌, List, arith}
use Rattle.std.proofs.lemmas.Grind.{common_steps}
use Rattle.roll_duel.specs.Bytes.{bytes_of, step}
use Rattle.roll_frame.specs.Games.{Game}
use Rattle.roll_frame.specs.declared.refusal.Refusal.TheVariants.{PlayerOutOfRange}
use Rattle.roll_text.specs.Lines.{ended}
use Rattle.prog_scripts.specs.declared.command.Command.{Command}
use Rattle.prog_scripts.specs.Headers.{setup_of}
use Rattle.prog_scripts.specs.Output.{duel_output, duel_refusals, output, refusals, refused_line}
use Rattle.prog_scripts.specs.Plays.{Play}
use Rattle.roll_duel.specs.Text.{duel_text}
use Rattle.prog_scripts.proofs.Engines.{outputs_weaker}
use Rattle.roll_cli.proofs.engine.write_duel.Goals as goal

pub returns-in_default-clause-outputs : goal.returns-in_default-clause-outputs
returns-in_default-clause-outputs g c =
    let play : Play = record { setup = setup_of c.args.header.now; commands = c.requires.readable.0 } in
    let written : ended (refused_line PlayerOutOfRange) ≡ duel_output play = grind (arith, common_steps) in
    let refused : 1 ≡ duel_refusals play = grind (arith, common_steps) in
    outputs_weaker (g.W.Write.contents c.args.writer.now) (g.W.Write.contents c.write_not_started.new.writer) c.write_not_started.result
    (λ whole n alone. record { commands = play.commands; are = c.requires.readable.1; output_is = alone.0 ∙ written; refused_is = alone.1 ∙ refused })
    c.write_not_started.ensures.outputs

pub returns-clause-outputs : goal.returns-clause-outputs
returns-clause-outputs g c =
    let game : Game = record { opening = bytes_of c.in_ok-opening.opening.state; step = step } in
    let same : (list : List Command) → output duel_text game (record { setup = setup_of c.args.header.now; commands = list }) ≡ duel_output (record { setup = setup_of c.args.header.now; commands = list }) = λ list. grind (arith, common_steps) in
    let as_many : (list : List Command) → refusals game (record { setup = setup_of c.args.header.now; commands = list }) ≡ duel_refusals (record { setup = setup_of c.args.header.now; commands = list }) = λ list. grind (arith, common_steps) in
    outputs_weaker (g.W.Write.contents c.args.writer.now) (g.W.Write.contents c.write_played.new.writer) c.write_played.result
    (λ whole refused h. record { commands = h.commands; are = h.are; output_is = h.output_is ∙ same h.commands; refused_is = h.refused_is ∙ as_many h.commands })
    c.write_played.ensures.outputs
