use Rattle.std.proofs.Common.{◌≡◌, ◌≤◌, ◌+◌, length, take}
use Rattle.prog_observer.specs.Observing.{observed}
use Rattle.roll_cli.specs.Playings.{game_of}
use Rattle.prog_explain.proofs.Watching.{IsSeenOf}
use Rattle.prog_explain.proofs.pictured.watch_all.Given as goal

abbrev pub invariant-loop-command : goal.invariant-loop-command
invariant-loop-command g l = record {
  settings : l.playing.settings ≡ l.fn.playing.settings;
  opening : l.playing.opening ≡ l.fn.playing.opening;
  seen : IsSeenOf l.fn.playing.settings (game_of g.G.Game.step l.fn.playing) l.fn.playing.now l.playing.now (take l.command-index l.commands) (observed l.fn.observer) (observed l.observer);
  jobs : length l.playing.now.jobs ≤ length l.fn.playing.now.jobs + l.command-index;
}
