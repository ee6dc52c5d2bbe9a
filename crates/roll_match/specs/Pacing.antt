-- How far a machine is ahead of the others.
use Rattle.std.specs.Prelude.{ℕ, zero, suc, ℤ, ◌-ℤ◌, int_lt, max, min, unsigned_abs, if◌then◌else◌}
use Rattle.roll_peer.specs.Peered.{Peered}
use Rattle.roll_peer.specs.Sending.{is_lost, stats_of}
use Rattle.roll_match.specs.declared.pacing.TheConstants.{LEAD_LIMIT}

-- a machine that is so far behind another, which is so far behind it, leads by so many half frames, if it does
abbrev pub half_frames : (behind theirs : ℤ) → ℕ
half_frames behind theirs = if int_lt behind theirs then min (unsigned_abs (theirs -ℤ behind)) LEAD_LIMIT else 0

-- by how many half frames this machine leads another, which isn't gone
abbrev pub lead_over : Peered → ℕ → ℕ
lead_over peer m =
    if is_lost peer m then 0 else half_frames (stats_of peer m).frames_behind (stats_of peer m).their_frames_behind

-- the most of the first so many machines
unfoldable pub lead_of : Peered → ℕ → ℕ
lead_of peer zero = 0
lead_of peer (suc m) = max (lead_of peer m) (lead_over peer m)
