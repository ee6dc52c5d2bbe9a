use Rattle.std.proofs.Common.{◌≡◌, ℕ, ◌<◌, [], length, get_or}
use Rattle.roll_mesh.specs.declared.limits.TheConstants.{PLAYER_LIMIT}
use Rattle.roll_member.specs.Seam.{given_after, last_before}
use Rattle.roll_member.proofs.seam.settings_after.Given as goal

abbrev pub invariant-loop-place : goal.invariant-loop-place
invariant-loop-place g l =
    (length l.before ≡ PLAYER_LIMIT)
    × (length l.first ≡ PLAYER_LIMIT)
    × ((p : ℕ) → p < l.place → get_or l.before p 0 ≡ last_before (g.S.Networked.seen l.session) p l.end)
    × ((p : ℕ) → p < l.place → get_or l.first p [] ≡ given_after (g.S.Networked.seen l.session) p l.end)
