-- Whether a machine knows another mark of a player than this one. An owner puts one, and who has its word knows it: so if two know two,
-- the player's machine told it in two ways, or one of those that tell of it lies.
use Rattle.std.specs.Prelude.{ℕ, ◌+◌, Bool, false, not, ◌&&◌, ◌||◌, ◌==◌, nat_eq, nat_lt, filter, Option, Some, None, if◌then◌else◌, slice_get, slice_index, slice_index_or, slice_set}
use Rattle.std.specs.Bool.{beq}
use Rattle.std.specs.Cmp.Lexicographic.{pointwise}
use Rattle.std.specs.List.{range_with_len}
use Rattle.std.specs.Option.{option_eq, option_map, option_or}
use Rattle.roll_mesh.specs.declared.limits.TheConstants.{PLAYER_LIMIT}
use Rattle.roll_wire.specs.Spelling.{Turn}
use Rattle.roll_wire.specs.declared.datagram.Mark.{Mark}
use Rattle.roll_wire.specs.declared.datagram.Marked.{Marked}
use Rattle.roll_wire.specs.declared.datagram.Newcomer.{Newcomer}
use Rattle.roll_peer.specs.Notices.{told}
use Rattle.roll_peer.specs.Marks.{mark_at}
use Rattle.roll_peer.specs.Peered.{Peered}
use Rattle.roll_peer.specs.declared.event.PeerEvent.TheVariants.{TwoMarks}

-- whether two are one newcomer
abbrev pub is_one_newcomer : Newcomer → Newcomer → Bool
is_one_newcomer one other = pointwise beq one.players other.players && (one.ticket == other.ticket)

-- whether two marks say the same
abbrev pub is_one_mark : Mark → Mark → Bool
is_one_mark one other =
    option_eq is_one_newcomer one.newcomer other.newcomer
    && (pointwise (option_eq nat_eq) one.delays other.delays && (one.threshold == other.threshold))

-- whether who knows this of a player knows a mark
abbrev pub is_known_by : Option Marked → Marked → Bool
is_known_by None m = false
is_known_by (Some known) m = (known.frame == m.frame) && is_one_mark known.mark m.mark

-- whether a mark is denied by one who knows this of the player, and has so many words of it: the mark's word, and not the mark
abbrev pub is_denied : (count : ℕ) → (known other : Option Marked) → Bool
is_denied count known None = false
is_denied count known (Some m) = nat_lt m.frame count && not (is_known_by known m)

-- whether this machine and a turn's sender know two marks of a player. That one of them is void doesn't matter
abbrev pub are_two : Peered → Turn → ℕ → Bool
are_two peer t p =
    is_denied (slice_index peer.member.mesh.machine.has p) (mark_at peer.marks p) (mark_at t.marks p)
    || is_denied (slice_index t.head.view.has p) (mark_at t.marks p) (mark_at peer.marks p)

-- the first player of whom they do, counted from 1
abbrev pub first_two : Peered → Turn → Option ℕ
first_two peer t =
    option_map (λ p. p + 1) (slice_get (filter (are_two peer t) (range_with_len 0 PLAYER_LIMIT)) 0)

-- of which player it was told that a machine knows another mark
abbrev pub dispute_at : Peered → ℕ → Option ℕ
dispute_at peer m = slice_index_or peer.disputes m None

-- the player of whom it is to be told now: none if it was told of one before
abbrev pub newly_found : (before player : Option ℕ) → Option ℕ
newly_found None player = player
newly_found (Some before) player = None

-- that a machine knows another mark of a player is told, if it does, once of each machine
abbrev pub dispute_told : ℕ → Option ℕ → Peered → Peered
dispute_told m player peer = record peer {
  disputes = slice_set peer.disputes m (option_or (dispute_at peer m) player);
  waiting = told peer.waiting (option_map (TwoMarks m) (newly_found (dispute_at peer m) player));
}

-- the player of whom a turn shows two marks, where marks are taken
abbrev pub found_two : Peered → Turn → Option ℕ
found_two peer t = if peer.settings.takes_marks then first_two peer t else None

-- a turn of a machine was heard
abbrev pub disputed : ℕ → Turn → Peered → Peered
disputed m t peer = dispute_told m (found_two peer t) peer
