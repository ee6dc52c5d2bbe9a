-- Why a mark is void.
use Rattle.std.specs.Prelude.{ℕ, List, Bool, true, not, nat_le, nat_lt, Option, Some, None, if◌then◌else◌, slice_index_or}
use Rattle.std.specs.List.{list_all, range_with_len}
use Rattle.roll_mesh.specs.declared.limits.TheConstants.{PLAYER_LIMIT}
use Rattle.roll_wire.specs.declared.datagram.Mark.{Mark}
use Rattle.roll_epoch.specs.Ends.{are_delays}
use Rattle.roll_epoch.specs.Inputs.{are_alike}
use Rattle.roll_epoch.specs.declared.faults.MarkFault.{MarkFault}
use Rattle.roll_epoch.specs.declared.faults.MarkFault.TheVariants.{Delay, OthersDelay, Threshold, UnlikeDelays}
use Rattle.roll_epoch.specs.declared.limits.TheConstants.{DELAY_MOST, THRESHOLD_MOST}
use Rattle.roll_epoch.specs.declared.terms.Terms.{Terms}

-- whether a delay is of 8 frames at most
abbrev pub is_short : Option ℕ → Bool
is_short None = true
is_short (Some delay) = nat_le delay DELAY_MOST

abbrev pub is_short_at : List (Option ℕ) → ℕ → Bool
is_short_at delays p = is_short (slice_index_or delays p None)

unfoldable pub are_short : List (Option ℕ) → Bool
are_short delays = list_all (is_short_at delays) (range_with_len 0 PLAYER_LIMIT)

-- of delays of which one can't be: another machine's player gets it, or it is too long
abbrev pub delay_fault : List (Option ℕ) → MarkFault
delay_fault delays = if are_short delays then OthersDelay else Delay

-- the first of these that holds
abbrev pub fault_of : Mark → (giver : ℕ) → Terms → Option MarkFault
fault_of mark giver terms =
    if nat_lt THRESHOLD_MOST mark.threshold then Some Threshold
    else (if not (are_delays mark.delays giver terms) then Some (delay_fault mark.delays)
    else (if not (are_alike mark.delays terms) then Some UnlikeDelays else None))
