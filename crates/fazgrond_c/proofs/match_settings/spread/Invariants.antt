use Rattle.std.proofs.Common.{◌≡◌, ℕ, ◌<◌, length, get_or}
use Rattle.roll_mesh.specs.declared.limits.TheConstants.{PLAYER_LIMIT}
use Rattle.fazgrond_c.specs.MatchKinds.{spread_at}
use Rattle.fazgrond_c.proofs.match_settings.spread.Given as goal

abbrev pub invariant-loop-place : goal.invariant-loop-place
invariant-loop-place l =
    (length l.spread ≡ PLAYER_LIMIT)
    × ((k : ℕ) → k < l.place → get_or l.spread k 0 ≡ spread_at l.players l.words k)
