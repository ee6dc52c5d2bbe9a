use Rattle.std.specs.List.{flat_map}
use Rattle.std.proofs.Common.{◌≡◌, ◌≤◌, ◌+◌, ◌++◌, ℕ, List, take}
use Rattle.roll_host.specs.Hosted.{places_of}
use Rattle.roll_live.specs.Tellings.{IsLive}
use Rattle.roll_live.specs.Told.{items_of}
use Rattle.roll_live.proofs.playing.Playing.play_all.Given as goal

-- the commands so far were played, and what they wrote stands written
abbrev pub invariant-loop-command : goal.invariant-loop-command
invariant-loop-command g l = record {
  played : (written : List ℕ) × IsLive g.G.Game.step g.G.Shown.text_of l.fn.self.host.session l.self.host.session (take l.command-index l.commands) written l.refused × (l.out.items ≡ l.fn.out.items ++ written);
  sent : l.self.sender.sent ≡ l.fn.self.sender.sent ++ flat_map items_of (take l.command-index l.commands);
  places : places_of l.self.host.pool ≡ places_of l.fn.self.host.pool;
  line : l.line ≡ l.command-index + 1;
  few : l.refused ≤ l.command-index;
}
