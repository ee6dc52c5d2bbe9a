use Rattle.std.proofs.Common.{◌≡◌, ℕ, ◌<◌, length, get_or}
use Rattle.roll_mesh.specs.declared.limits.TheConstants.{PLAYER_LIMIT}
use Rattle.fazgrond_c.specs.Matches.{of_player}
use Rattle.fazgrond_c.proofs.match_reads.of_players.Given as goal

abbrev pub invariant-loop-place : goal.invariant-loop-place
invariant-loop-place l =
    (length l.players ≡ PLAYER_LIMIT)
    × ((k : ℕ) → k < l.place → get_or l.players k 0 ≡ of_player l.row l.words k)
