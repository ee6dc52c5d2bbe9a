use Rattle.std.proofs.Common.{◌≡◌, length}
use Rattle.roll_cli.specs.Playings.{game_of}
use Rattle.roll_cli.proofs.PlayedTo.{IsPlayedTo}
use Rattle.roll_cli.proofs.playing.Playing.play_all.Given as goal

abbrev pub invariant-loop-rest : goal.invariant-loop-rest
invariant-loop-rest g l = record {
  settings : l.self.settings ≡ l.fn.self.settings;
  opening : l.self.opening ≡ l.fn.self.opening;
  played : IsPlayedTo g.G.Shown.text_of l.fn.self.settings (game_of g.G.Game.step l.fn.self) l.fn.self.now l.self.now l.fn.out.items l.out.items l.fn.commands l.rest l.refused;
}

abbrev pub decreases-loop-rest : goal.decreases-loop-rest
decreases-loop-rest g l = length l.rest
