use Rattle.std.proofs.Common.{◌≡◌}
use Rattle.fazgrond_c.specs.MatchKinds.{players_to}
use Rattle.fazgrond_c.proofs.match_settings.MatchSettingsIn.players.Given as goal

abbrev pub invariant-loop-place : goal.invariant-loop-place
invariant-loop-place l = l.players ≡ players_to l.self.owners l.place
