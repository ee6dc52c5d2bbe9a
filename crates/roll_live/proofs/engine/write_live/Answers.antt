use Rattle.std.proofs.Common.{◌≡◌, ◌∙◌, ◌++◌, ap, subst, List, ℕ}
use Rattle.roll_frame.specs.Games.{Game}
use Rattle.roll_frame.specs.declared.settings.Settings.{Settings}
use Rattle.roll_text.specs.Streams.{AppendsPart}
use Rattle.prog_scripts.specs.Headers.{settings_of}
use Rattle.prog_scripts.specs.Plays.{play_of}
use Rattle.prog_scripts.specs.declared.command.Command.{Command}
use Rattle.roll_live.specs.Lives.{WritesUnder}
use Rattle.prog_scripts.proofs.Engines.{outputs_front}
use Rattle.roll_live.proofs.engine.write_live.Goals as goal

pub returns-in_err-write_all-clause-outputs : goal.returns-in_err-write_all-clause-outputs
returns-in_err-write_all-clause-outputs g c =
    let game : Game = record { opening = g.G.RawGame.snapshot_value c.args.opening; step = g.G.Game.step } in
    let w = c.in_ok-refused.ensures.written in
    let n : ℕ = c.in_ok-refused.refused in
    let settings : c.settings-settings.result ≡ settings_of (play_of c.args.script.now).setup = c.settings-settings.ensures in
    let commands : c.deref.result.now ≡ c.args.script.now.commands.items = c.deref.ensures.value in
    let writes = subst (λ (s : Settings). WritesUnder g.G.Shown.text_of game s c.args.script.now.commands.items w.0 n) settings
    (subst (λ (cs : List Command). WritesUnder g.G.Shown.text_of game c.settings-settings.result cs w.0 n) commands w.1) in
    let all : c.deref-2.result.now ≡ w.0 = c.deref-2.ensures.value ∙ w.2 ∙ ap (λ t. t ++ w.0) c.new-out.ensures.items in
    outputs_front (g.W.Write.contents c.args.writer.now) (g.W.Write.contents c.write_all.new.writer) c.from_residual-in_err-write_all.result _ w.0 n c.from_residual-in_err-write_all.ensures.1 writes
    (subst (AppendsPart (g.W.Write.contents c.args.writer.now) (g.W.Write.contents c.write_all.new.writer)) all c.in_err-write_all.ensures.err)
