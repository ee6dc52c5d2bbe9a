use Rattle.std.proofs.Common.{◌≡◌, arith, false, subst, true}
use Rattle.std.specs.Int.{is_in_range}
use Rattle.std.proofs.lemmas.Grind.{common_steps}
use Rattle.roll_duel.specs.Bytes.{bytes_of, step}
use Rattle.roll_frame.specs.Games.{Game}
use Rattle.prog_scripts.specs.Output.{duel_game}
use Rattle.prog_scripts.specs.Plays.{play_of}
use Rattle.roll_duel.specs.Text.{duel_text}
use Rattle.roll_live.specs.Lives.{Writes}
use Rattle.prog_scripts.proofs.Engines.{outputs_weaker}
use Rattle.roll_live.proofs.program.write_duel.Goals as goal

pub returns-in_default-clause-outputs : goal.returns-in_default-clause-outputs
returns-in_default-clause-outputs g c =
    let out : is_in_range 2 4 (play_of c.args.script.now).setup.players ≡ false = grind (arith, common_steps) in
    outputs_weaker (g.W.Write.contents c.args.writer.now) (g.W.Write.contents c.write_not_started.new.writer) c.write_not_started.result
    (λ whole refused alone. rw out alone)
    c.write_not_started.ensures.outputs

pub returns-clause-outputs : goal.returns-clause-outputs
returns-clause-outputs g c =
    let within : is_in_range 2 4 (play_of c.args.script.now).setup.players ≡ true = grind (arith, common_steps) in
    let same : record { opening = bytes_of c.in_ok-opening.opening.state; step = step } ≡ duel_game (play_of c.args.script.now).setup.players = grind (arith, common_steps) in
    outputs_weaker (g.W.Write.contents c.args.writer.now) (g.W.Write.contents c.write_live.new.writer) c.write_live.result
    (λ whole refused writes. rw within (subst (λ (game : Game). Writes duel_text game (play_of c.args.script.now) whole refused) same writes))
    c.write_live.ensures.outputs
