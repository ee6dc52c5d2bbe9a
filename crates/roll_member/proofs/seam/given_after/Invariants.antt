use Rattle.std.proofs.Common.{◌≡◌, ℕ, ◌+◌, ◌<◌, length, get_or}
use Rattle.roll_frame.specs.declared.limits.TheConstants.{DELAY_LIMIT}
use Rattle.roll_member.specs.Seam.{given_at}
use Rattle.roll_member.proofs.seam.given_after.Given as goal

abbrev pub invariant-loop-frame : goal.invariant-loop-frame
invariant-loop-frame g l =
    (length l.given ≡ DELAY_LIMIT)
    × ((k : ℕ) → k < l.frame → get_or l.given k 0 ≡ given_at (g.S.Networked.seen l.session) l.place (l.end + k))
