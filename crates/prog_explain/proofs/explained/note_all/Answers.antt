use Rattle.std.proofs.Common.{◌≡◌, ◌∙◌, ◌+◌, ◌++◌, ◌∷◌, [], List, ap, sym, subst, arith, length, take, refl}
use Rattle.std.specs.String.{string_bytes}
use Rattle.std.proofs.lemmas.List.{length-take-le, take_all, take_more}
use Rattle.prog_scripts.specs.Output.{after_command, refusal_by}
use Rattle.roll_cli.specs.Playings.{Played, game_of}
use Rattle.prog_scripts.specs.declared.command.Command.{Command}
use Rattle.roll_cli.proofs.Jobs.{jobs_within}
use Rattle.roll_frame.specs.Games.{Game, Value}
use Rattle.prog_explain.proofs.Noting.{AreNotedOf, noted_all, noted_more, noted_none}
use Rattle.prog_explain.proofs.explained.note_all.Goals as goal

pub loop-command-init : goal.loop-command-init
loop-command-init g c = record {
  settings = refl;
  opening = refl;
  noted = noted_none c.args.playing.now.settings (game_of g.G.Game.step c.args.playing.now) c.args.playing.now.now (string_bytes c.args.notes.now);
  jobs = omega arith;
  line = refl;
}

pub loop-command-preserved : goal.loop-command-preserved
loop-command-preserved g c =
    let now = c.loop-command.invariant in
    let first : Played = c.args.playing.now in
    let old : Played = c.loop-command.playing in
    let new : Played = c.play.new.self in
    let game : Game = game_of g.G.Game.step first in
    let command : Command = c.command-item.result in
    let commands : List Command = c.args.commands.now in
    let e = c.in_ok-why.ensures in
    let note = c.in_ok-note_refusal.ensures in
    let same_game : game_of g.G.Game.step old ≡ game = ap (λ (x : Value). record { opening = x; step = g.G.Game.step }) now.opening in
    let next : new.now ≡ after_command first.settings game old.now command = ap (λ (v : Played). v.now) e.played ∙ rw (now.settings, same_game) refl in
    let refused : c.in_ok-why.why ≡ refusal_by first.settings game old.now command = e.refused ∙ rw (now.settings, same_game) refl in
    let done : take (c.loop-command.command-index + 1) commands ≡ take c.loop-command.command-index commands ++ command ∷ [] =
    take_more commands c.loop-command.command-index command c.loop-command-test.true ∙ ap (λ (x : Command). take c.loop-command.command-index commands ++ x ∷ []) (sym c.command-item.is) in
    record {
      settings = ap (λ (v : Played). v.settings) e.played ∙ now.settings;
      opening = ap (λ (v : Played). v.opening) e.played ∙ now.opening;
      noted = subst (λ (cs : List Command). AreNotedOf first.settings game first.now new.now cs (string_bytes c.args.notes.now) (string_bytes c.note_refusal.new.notes)) (sym done)
          (noted_more first.settings game first.now old.now new.now (take c.loop-command.command-index commands) command c.in_ok-why.why (string_bytes c.args.notes.now) (string_bytes c.loop-command.notes) (string_bytes c.note_refusal.new.notes)
          note.0 (c.loop-command.line + 1) now.noted next refused (omega (arith, now.line, length-take-le c.loop-command.command-index commands (omega arith))) note.1 note.2);
      jobs = omega (arith, now.jobs, ap (λ (v : Played). length v.now.jobs) e.played, jobs_within old.settings (game_of g.G.Game.step old) old.now command);
      line = omega (arith, now.line);
    }

pub returns : goal.returns
returns g c =
    let first : Played = c.args.playing.now in
    record {
      noted = noted_all first.settings (game_of g.G.Game.step first) first.now c.loop-command.playing.now (take c.loop-command.command-index c.args.commands.now) c.args.commands.now (string_bytes c.args.notes.now) (string_bytes c.loop-command.notes)
          (take_all c.loop-command.command-index c.args.commands.now c.loop-command-test.false) c.loop-command.invariant.noted;
      fault = tt;
    }
