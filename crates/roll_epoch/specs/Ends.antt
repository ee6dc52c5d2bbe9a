-- Which marks count in an epoch, and where it ends.
use Rattle.std.specs.Prelude.{◌≡◌, ◌⊎◌, ℕ, ◌+◌, ◌<◌, ◌≤◌, ◌==◌, List, Bool, true, ◌&&◌, ◌||◌, not, nat_le, nat_lt, is_none, Option, Some, None, if◌then◌else◌, slice_index, slice_index_or, slice_set}
use Rattle.std.specs.List.{list_all, range_with_len}
use Rattle.roll_mesh.specs.declared.limits.TheConstants.{PLAYER_LIMIT}
use Rattle.roll_wire.specs.declared.datagram.Mark.{Mark}
use Rattle.roll_wire.specs.declared.datagram.Marked.{Marked}
use Rattle.roll_epoch.specs.Inputs.{are_alike}
use Rattle.roll_epoch.specs.declared.limits.TheConstants.{DELAY_MOST, THRESHOLD_MOST}
use Rattle.roll_epoch.specs.declared.marks.Ending.{Ending}
use Rattle.roll_epoch.specs.declared.marks.Marks.{Marks}
use Rattle.roll_epoch.specs.declared.terms.Terms.{Terms}

-- the machine that owns a player
abbrev pub owner_of : List ℕ → ℕ → ℕ
owner_of owners p = slice_index owners p

-- ---- which marks are void

-- whether a player of this owner may get such a delay by a mark of a giver: at most 8 frames, if the giver owns it
abbrev pub is_delay : Option ℕ → (giver owner : ℕ) → Bool
is_delay None giver owner = true
is_delay (Some delay) giver owner = nat_le delay DELAY_MOST && (owner == giver)

abbrev pub is_delay_at : List (Option ℕ) → ℕ → Terms → ℕ → Bool
is_delay_at delays giver terms p =
    is_delay (slice_index_or delays p None) giver (owner_of terms.owners p)

unfoldable pub are_delays : List (Option ℕ) → ℕ → Terms → Bool
are_delays delays giver terms =
    list_all (is_delay_at delays giver terms) (range_with_len 0 PLAYER_LIMIT)

-- a mark is void if its threshold or a delay is out of range, if it gives a delay to a player that its giver doesn't own, or if words of
-- one input have other delays than each other by it
abbrev pub is_void : Mark → (giver : ℕ) → Terms → Bool
is_void mark giver terms =
    nat_lt THRESHOLD_MOST mark.threshold
    || (not (are_delays mark.delays giver terms) || not (are_alike mark.delays terms))

-- ---- what is known

-- of each player: its first mark, and at how many words it left
pub record Told : Type 0 where
  pub first : List (Option Marked)
  pub left : List (Option ℕ)
  pub terms : Terms

abbrev pub told : Marks → Terms → List (Option ℕ) → Told
told marks terms left = record { first = marks.first; left = left; terms = terms }

-- a player's first mark stays
abbrev pub noted : List (Option Marked) → ℕ → Marked → List (Option Marked)
noted first p m = if is_none (slice_index_or first p None) then slice_set first p (Some m) else first

-- whether a player hadn't left at a frame
abbrev pub is_there : Option ℕ → ℕ → Bool
is_there None frame = true
is_there (Some at) frame = nat_lt frame at

-- a player's mark, if its word is in the rows before a frame
abbrev pub in_rows : (end : ℕ) → Option ℕ → Option Marked → Option Marked
in_rows end left None = None
in_rows end left (Some m) =
    if nat_lt m.frame end && is_there left m.frame then Some m else None

-- the mark of player p in the rows before a frame
abbrev pub mark_in : Told → (end : ℕ) → ℕ → Option Marked
mark_in told end p =
    in_rows end (slice_index_or told.left p None) (slice_index_or told.first p None)

abbrev pub unless_void : Terms → (giver : ℕ) → Option Marked → Option Marked
unless_void terms giver None = None
unless_void terms giver (Some m) = if is_void m.mark giver terms then None else Some m

-- the same, if it counts: if it isn't void
abbrev pub counting : Told → (settled : ℕ) → ℕ → Option Marked
counting told settled p =
    unless_void told.terms (owner_of told.terms.owners p) (mark_in told settled p)

-- ---- the end

-- the ending by a mark that counts of one of the first players: no other one's mark stands in an earlier row, or in this row and is
-- of a lower player
pub record IsFirst (told : Told) (settled players : ℕ) (e : Ending) : Type 0 where
  pub marked : Marked
  pub counts : counting told settled e.player ≡ Some marked
  pub inside : e.player < players
  pub frame : e.frame ≡ marked.frame + 1
  pub mark : e.mark ≡ marked.mark
  pub least : (p : ℕ) (m : Marked) → p < players → counting told settled p ≡ Some m
      → (marked.frame < m.frame) ⊎ ((marked.frame ≡ m.frame) × (e.player ≤ p))

-- where an epoch ends of which so many rows are settled
abbrev pub IsEnd : Told → (settled : ℕ) → Ending → Type 0
IsEnd told settled e = IsFirst told settled PLAYER_LIMIT e

-- the ending by a player's mark
abbrev pub ending : ℕ → Marked → Ending
ending p m = record { frame = m.frame + 1; player = p; mark = m.mark }

-- the sooner one of two
abbrev pub sooner : Option Ending → ℕ → Option Marked → Option Ending
sooner e p None = e
sooner None p (Some m) = Some (ending p m)
sooner (Some e) p (Some m) = if nat_le e.frame (m.frame + 1) then Some e else Some (ending p m)
