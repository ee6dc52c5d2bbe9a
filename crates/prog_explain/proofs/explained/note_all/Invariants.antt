use Rattle.std.proofs.Common.{◌≡◌, ◌≤◌, ◌+◌, length, take}
use Rattle.std.specs.String.{string_bytes}
use Rattle.roll_cli.specs.Playings.{game_of}
use Rattle.prog_explain.proofs.Noting.{AreNotedOf}
use Rattle.prog_explain.proofs.explained.note_all.Given as goal

abbrev pub invariant-loop-command : goal.invariant-loop-command
invariant-loop-command g l = record {
  settings : l.playing.settings ≡ l.fn.playing.settings;
  opening : l.playing.opening ≡ l.fn.playing.opening;
  noted : AreNotedOf l.fn.playing.settings (game_of g.G.Game.step l.fn.playing) l.fn.playing.now l.playing.now (take l.command-index l.commands) (string_bytes l.fn.notes) (string_bytes l.notes);
  jobs : length l.playing.now.jobs ≤ length l.fn.playing.now.jobs + l.command-index;
  line : l.line ≡ l.command-index + 1;
}
