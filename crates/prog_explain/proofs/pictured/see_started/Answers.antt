use Rattle.std.proofs.Common.{List, subst}
use Rattle.std.specs.Prelude.{IfOk, string_bytes}
use Rattle.prog_scripts.specs.declared.command.Command.{Command}
use Rattle.roll_cli.specs.Playings.{Played, game_of}
use Rattle.prog_explain.specs.Pictured.{AreDrawn}
use Rattle.prog_explain.proofs.pictured.see_started.Goals as goal

pub returns : goal.returns
returns g c =
    let drawn : Played → List Command → Type 0 = λ old commands. IfOk c.see_playing.result
    (λ picture. AreDrawn old.settings (game_of g.G.Game.step old) old.now commands c.args.window (string_bytes picture)) in
    subst (λ (old : Played). drawn old c.args.script.now.commands.items) c.new-playing.ensures
    (subst (drawn c.new-playing.result) c.deref.ensures.value c.see_playing.ensures)
