-- Marks of words as a machine knows them: of each player the first one that it knows, and which of these are void.
use Rattle.std.specs.Prelude.{ℕ, zero, suc, ◌+◌, List, map, min, Bool, true, ◌&&◌, nat_le, nat_lt, Option, Some, None, if◌then◌else◌, slice_index, slice_index_or}
use Rattle.std.specs.List.{range_with_len}
use Rattle.std.specs.Option.{option_or}
use Rattle.roll_mesh.specs.Machines.{is_in, none_offered}
use Rattle.roll_mesh.specs.declared.limits.TheConstants.{PLAYER_LIMIT}
use Rattle.roll_mesh.specs.declared.packet.Offer.{Offer}
use Rattle.roll_wire.specs.Spelling.{are_spelled, Content, Greets, Leaves, Plays}
use Rattle.roll_wire.specs.declared.datagram.Marked.{Marked}
use Rattle.roll_peer.specs.declared.marking.TheConstants.{NO_END}

-- the mark of player p, if there is one
abbrev pub mark_at : List (Option Marked) → ℕ → Option Marked
mark_at marks p = slice_index_or marks p None

-- something for each player
abbrev pub each_player : {A : Type 0} → (ℕ → A) → List A
each_player f = map f (range_with_len 0 PLAYER_LIMIT)

-- ---- which words are taken

-- of who isn't gone no words are taken from the frame after that of a mark on, unless it is void
abbrev pub end_by : Bool → Option Marked → ℕ
end_by is_void None = NO_END
end_by is_void (Some m) = if is_void then NO_END else min NO_END (m.frame + 1)

-- the least of these frames, of the first players
unfoldable pub end_among : List Bool → List (Option Marked) → ℕ → ℕ
end_among voids marks zero = NO_END
end_among voids marks (suc p) = min (end_among voids marks p) (end_by (is_in voids p) (mark_at marks p))

-- ---- what is heard

-- a mark, if its word is among so many; and if it isn't
abbrev pub if_there : (count : ℕ) → Option Marked → Option Marked
if_there count None = None
if_there count (Some m) = if nat_lt m.frame count then Some m else None

abbrev pub unless_there : (count : ℕ) → Option Marked → Option Marked
unless_there count None = None
unless_there count (Some m) = if nat_lt m.frame count then None else Some m

-- the marks that are known, and of a player of whom none is known that which a turn tells, if its word isn't there yet
abbrev pub told_at : (has : List ℕ) → (known told : List (Option Marked)) → ℕ → Option Marked
told_at has known told p = option_or (mark_at known p) (unless_there (slice_index has p) (mark_at told p))

abbrev pub told_with : (has : List ℕ) → (known told : List (Option Marked)) → List (Option Marked)
told_with has known told = each_player (told_at has known told)

-- the marks that are known once so many words are there: a mark that was told is known if its word is one of them
abbrev pub kept_at : (has : List ℕ) → (known told : List (Option Marked)) → ℕ → Option Marked
kept_at has known told p = option_or (mark_at known p) (if_there (slice_index has p) (mark_at told p))

abbrev pub kept_with : (has : List ℕ) → (known told : List (Option Marked)) → List (Option Marked)
kept_with has known told = each_player (kept_at has known told)

-- whether all that a datagram says of marks can be said again
abbrev pub is_spelled_in : Content → Bool
is_spelled_in (Plays t) = are_spelled t.marks
is_spelled_in (Greets hello) = true
is_spelled_in (Leaves why) = true

-- ---- what is told

-- a mark, if its word is offered
abbrev pub if_offered : Offer → Option Marked → Option Marked
if_offered offer None = None
if_offered offer (Some m) = if nat_le offer.first m.frame && nat_lt m.frame offer.end then Some m else None

-- those of some marks whose words are offered
abbrev pub offered_at : List Offer → List (Option Marked) → ℕ → Option Marked
offered_at offers known p = if_offered (slice_index_or offers p none_offered) (mark_at known p)

abbrev pub offered_marks : List Offer → List (Option Marked) → List (Option Marked)
offered_marks offers known = each_player (offered_at offers known)

-- a mark, if its word is offered, or is among so many
abbrev pub if_offered_or_there : Offer → (count : ℕ) → Option Marked → Option Marked
if_offered_or_there offer count marked = option_or (if_offered offer marked) (if_there count marked)

-- all marks that are known of words that are offered, or are there
abbrev pub told_mark : List Offer → (has : List ℕ) → List (Option Marked) → ℕ → Option Marked
told_mark offers has known p =
    if_offered_or_there (slice_index_or offers p none_offered) (slice_index has p) (mark_at known p)

abbrev pub told_marks : List Offer → (has : List ℕ) → List (Option Marked) → List (Option Marked)
told_marks offers has known = each_player (told_mark offers has known)
