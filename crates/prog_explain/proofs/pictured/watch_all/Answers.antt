use Rattle.std.proofs.Common.{◌≡◌, ◌∙◌, ◌+◌, ◌++◌, ◌∷◌, [], List, ap, sym, subst, arith, length, take, refl, Bool, Option}
use Rattle.std.proofs.lemmas.List.{take_all, take_more}
use Rattle.std.specs.Prelude.{◌&&◌, is_none}
use Rattle.prog_observer.specs.Observing.{after_watch, observed}
use Rattle.prog_scripts.specs.Output.{Playing, after_command, refusal_by}
use Rattle.prog_scripts.specs.declared.command.Command.{Command}
use Rattle.roll_cli.proofs.Jobs.{jobs_within}
use Rattle.roll_cli.specs.Playings.{Played, game_of}
use Rattle.roll_frame.specs.Games.{Game, Value}
use Rattle.roll_frame.specs.declared.refusal.Refusal.{Refusal}
use Rattle.prog_explain.proofs.Watching.{IsSeenOf, on_ok, seen_more, seen_none, watch_at}
use Rattle.prog_explain.specs.Pictured.{has_rolled, is_roll, played_by, seen_after, seen_by}
use Rattle.prog_explain.proofs.pictured.watch_all.Goals as goal

pub loop-command-init : goal.loop-command-init
loop-command-init g c = record {
  settings = refl;
  opening = refl;
  seen = seen_none c.args.playing.now.settings (game_of g.G.Game.step c.args.playing.now) c.args.playing.now.now (observed c.args.observer.now);
  jobs = omega arith;
}

pub loop-command-preserved : goal.loop-command-preserved
loop-command-preserved g c =
    let now = c.loop-command.invariant in
    let first : Played = c.args.playing.now in
    let old : Played = c.loop-command.playing in
    let new : Played = c.play.new.self in
    let game : Game = game_of g.G.Game.step first in
    let command : Command = c.command-item.result in
    let commands : List Command = c.args.commands.now in
    let e = c.in-Ok.ensures in
    let same_game : game_of g.G.Game.step old ≡ game = ap (λ (x : Value). record { opening = x; step = g.G.Game.step }) now.opening in
    let next : new.now ≡ after_command first.settings game old.now command = ap (λ (v : Played). v.now) e.played ∙ rw (now.settings, same_game) refl in
    let refused : c.in-Ok.why ≡ refusal_by first.settings game old.now command = e.refused ∙ rw (now.settings, same_game) refl in
    let same_settings : new.settings ≡ first.settings = ap (λ (v : Played). v.settings) e.played ∙ now.settings in
    let rolled : c.has_rolled.result ≡ has_rolled first.settings game old.now command = c.has_rolled.ensures ∙ ap (λ (w : Option Refusal). is_none w && is_roll command) refused in
    let watched : observed c.watch-watched.new.self ≡ after_watch (observed c.loop-command.observer) c.session.result.now c.has_rolled.result =
    on_ok c.watch-watched.result (sym c.is_err.ensures.value ∙ c.if-is_err.false) c.watch-watched.ensures.watched in
    let seen : observed c.watch-watched.new.self ≡ seen_after first.settings game old.now command (observed c.loop-command.observer) =
    watched ∙ ap (λ (b : Bool). after_watch (observed c.loop-command.observer) c.session.result.now b) rolled
    ∙ watch_at first.settings game (observed c.loop-command.observer) c.session.result.now (after_command first.settings game old.now command).core (has_rolled first.settings game old.now command)
    (c.session.ensures.settings ∙ same_settings) (c.session.ensures.core ∙ ap (λ (p : Playing). p.core) next) in
    let done : take (c.loop-command.command-index + 1) commands ≡ take c.loop-command.command-index commands ++ command ∷ [] =
    take_more commands c.loop-command.command-index command c.loop-command-test.true ∙ ap (λ (x : Command). take c.loop-command.command-index commands ++ x ∷ []) (sym c.command-item.is) in
    record {
      settings = same_settings;
      opening = ap (λ (v : Played). v.opening) e.played ∙ now.opening;
      seen = subst (λ (cs : List Command). IsSeenOf first.settings game first.now new.now cs (observed c.args.observer.now) (observed c.watch-watched.new.self)) (sym done)
          (seen_more first.settings game first.now old.now new.now (take c.loop-command.command-index commands) command (observed c.args.observer.now) (observed c.loop-command.observer) (observed c.watch-watched.new.self) now.seen next seen);
      jobs = omega (arith, now.jobs, ap (λ (v : Played). length v.now.jobs) e.played, jobs_within old.settings (game_of g.G.Game.step old) old.now command);
    }

pub returns-clause-seen : goal.returns-clause-seen
returns-clause-seen g c =
    let first : Played = c.args.playing.now in
    c.loop-command.invariant.seen.is_seen ∙ ap (λ (cs : List Command). seen_by first.settings (game_of g.G.Game.step first) first.now cs (observed c.args.observer.now)) (take_all c.loop-command.command-index c.args.commands.now c.loop-command-test.false)

pub returns-clause-played : goal.returns-clause-played
returns-clause-played g c =
    let first : Played = c.args.playing.now in
    c.loop-command.invariant.seen.is_now ∙ ap (λ (cs : List Command). played_by first.settings (game_of g.G.Game.step first) first.now cs) (take_all c.loop-command.command-index c.args.commands.now c.loop-command-test.false)
